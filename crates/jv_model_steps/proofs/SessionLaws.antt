-- Whether a client's session is there, by its number.
use Rattle.std.proofs.Common.{◌≡◌, ℕ, Bool, true, false, IsTrue, is_some, Option, None, Some, refl, unwrap_or, sym, ◌∙◌}
use Rattle.jv_model.specs.promise.FiniteMap.{get}
use Rattle.jv_model.specs.promise.client.ModelClient.{ModelClient, session_of}
use Rattle.jv_model.specs.promise.journal.State.{has_session}
use Rattle.jv_model.specs.promise.tree.Tree.{Tree}

session-mounted : (t : Tree) (o : Option ℕ) → IsTrue (is_some o)
    → (elim o as (λ o. Bool) [ None ↦ true | Some sid ↦ is_some (get t.sessions sid) ])
    ≡ is_some (get t.sessions (unwrap_or o 0))
session-mounted t None mounted = absurd (cc mounted)
session-mounted t (Some sid) mounted = refl

-- a mounted client's session is there where the tree has its number
pub has_session-mounted : (t : Tree) (c : ModelClient) → IsTrue (is_some c.session)
    → has_session t c ≡ is_some (get t.sessions (session_of c))
has_session-mounted t c mounted = session-mounted t c.session mounted

session-there : (t : Tree) (o : Option ℕ) → is_some (get t.sessions (unwrap_or o 0)) ≡ true
    → (elim o as (λ o. Bool) [ None ↦ true | Some sid ↦ is_some (get t.sessions sid) ]) ≡ true
session-there t None there = refl
session-there t (Some sid) there = there

-- where it has, the client's is there, mounted or not
pub has_session-there : (t : Tree) (c : ModelClient) → is_some (get t.sessions (session_of c)) ≡ true
    → has_session t c ≡ true
has_session-there t c there = session-there t c.session there
