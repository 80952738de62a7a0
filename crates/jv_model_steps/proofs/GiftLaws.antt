-- What a reply hands to a client, and which files its session keeps from then on.
use Rattle.std.proofs.Common.{◌≡◌, ℕ, Bool, true, false, ◌&&◌, List, filter, refl, ap, ◌∙◌}
use Rattle.std.specs.Prelude.{◌==◌, not}
use Rattle.std.proofs.lemmas.Bool.{eqb-true}
use Rattle.std.proofs.lemmas.Map.Views.{any-filter_same}
use Rattle.jv_model.specs.declared.profile.Does.{Does}
use Rattle.jv_model.specs.declared.profile.Does.TheVariants.{Mounts}
use Rattle.jv_model.specs.promise.tree.Tree.{Tree, is_sustained}
use Rattle.jv_model.specs.promise.client.ModelClient.{ModelClient, held_inodes, session_of}
use Rattle.jv_model.specs.promise.journal.State.{Gift, NewSession, NewHandle, Nothing, given, newly_sustained}
use Rattle.jv_model.specs.promise.Lists.{is_among}

-- an operation that doesn't mount in writeback mode
abbrev pub IsDirect : Does → Type 0
IsDirect (Mounts writeback) = writeback ≡ false
IsDirect _ = Unit {0}

-- a client stays in direct mode
pub direct-given : (entry : ℕ) (does : Does) (gift : Gift) (c : ModelClient) → IsDirect does → c.writeback ≡ false
    → (given entry does gift c).writeback ≡ false
direct-given entry does Nothing c direct was = was
direct-given entry does (NewHandle handle inode) c direct was = was
direct-given entry (Mounts writeback) (NewSession sid) c direct was = direct
direct-given entry _ (NewSession sid) c direct was = refl

-- the files that its session keeps from then on are those that it has open and that lost their last name

both_first : (a b : Bool) → (a ≡ true → b ≡ true) → (a && b) ≡ a
both_first true b both = both refl
both_first false b both = refl

among-filter : (test : ℕ → Bool) (inode : ℕ) (held : List ℕ) → (test inode ≡ true → is_among inode held ≡ true)
    → is_among inode (filter test held) ≡ test inode
among-filter test inode held both =
    any-filter_same (λ i. i == inode) test (test inode) (λ i same. ap test (eqb-true i inode same)) held
    ∙ both_first (test inode) (is_among inode held) both

abbrev pub comes : Tree → Tree → ModelClient → ℕ → Bool
comes before after c inode = is_sustained after (session_of c) inode && not (is_sustained before (session_of c) inode)

pub among-sustained : (before after : Tree) (c : ModelClient) (inode : ℕ)
    → (comes before after c inode ≡ true → is_among inode (held_inodes c.handles) ≡ true)
    → is_among inode (newly_sustained before after c) ≡ comes before after c inode
among-sustained before after c inode held = among-filter (comes before after c) inode (held_inodes c.handles) held
