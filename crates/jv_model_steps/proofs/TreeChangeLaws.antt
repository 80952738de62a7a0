-- What a truncate and a copy of the tree are answered, whether they are refused or not.
use Rattle.std.proofs.Common.{◌≡◌, ℕ, ◌+◌, ◌-◌, Bool, true, false, Option, None, Some, Result, Ok, Err, refl, ap, ◌∙◌}
use Rattle.std.specs.Prelude.{◌&&◌, not, ◌==◌, is_some, min, nat_le}
use Rattle.jv_model.specs.declared.limits.TheConstants.{FILE_END}
use Rattle.jv_model.specs.declared.act.Told.TheVariants.{Refused as ToldRefused}
use Rattle.jv_model.specs.declared.fault.Fault.{Fault}
use Rattle.jv_model.specs.declared.fault.Fault.TheVariants.{FileTooLarge, Invalid, NoSpace, Stale}
use Rattle.jv_model.specs.declared.fault.Gone.TheVariants.{Session, Node}
use Rattle.jv_model.specs.declared.op.Reply.TheVariants.{Count, Done}
use Rattle.jv_model.specs.promise.FiniteMap.{get}
use Rattle.jv_model.specs.promise.tree.Attempt.{◌>>=◌, require, some_or}
use Rattle.jv_model.specs.promise.tree.Caller.{Caller, Outcome, answered, done, in_session}
use Rattle.jv_model.specs.promise.tree.FileBytes.{copied, copy, copy_bytes, open_content, overlap, truncate, truncated}
use Rattle.jv_model.specs.promise.tree.Tree.{Content, Tree, content_at, fits}
use Rattle.jv_model.specs.promise.journal.Steps.{is_failure}

-- a refusal that is no failure of a device, and no lack of memory
abbrev pub IsCalm : Fault → Type 0
IsCalm fault = is_failure (ToldRefused fault) ≡ false

calm-as : (refusal fault : Fault) → IsCalm refusal → ◌≡◌ {A = Result Outcome Fault} (Err refusal) (Err fault)
    → IsCalm fault
calm-as refusal fault calm e = let same : fault ≡ refusal = cc e in ap (λ f. is_failure (ToldRefused f)) same ∙ calm

-- ---- truncates

truncate-by : (session : Result (Unit {0}) Fault) (content : Result Content Fault) (short fits : Bool) (t : Tree)
    (out : Outcome)
    → ((session >>= λ u. content >>= λ c. require short FileTooLarge >>= λ u. require fits NoSpace >>= λ u. done t)
    ≡ Ok out)
    → out ≡ record { tree = t; reply = Done }
truncate-by (Ok u) (Ok c) true true t out e = cc e
truncate-by _ _ _ _ t out e = absurd (cc e)

pub truncate-ok : (t : Tree) (who : Caller) (len : ℕ) (out : Outcome) → truncate t who len ≡ Ok out
    → out ≡ record { tree = truncated t who.now who.inode len; reply = Done }
unfolding truncate
truncate-ok t who len out e =
    let after = truncated t who.now who.inode len in
    truncate-by (in_session t who) (open_content t who.inode) (nat_le len FILE_END) (fits t after) after out e

truncate-calm_by : (session : Bool) (content : Option Content) (short fits : Bool) (sid inode : ℕ) (t : Tree)
    (fault : Fault)
    → ((require session (Stale (Session sid)) >>= λ u. some_or content (Stale (Node inode)) >>= λ c. require short
    FileTooLarge
    >>= λ u. require fits NoSpace >>= λ u. done t) ≡ Err fault)
    → IsCalm fault
truncate-calm_by true (Some c) true true sid inode t fault e = absurd (cc e)
truncate-calm_by true (Some c) true false sid inode t fault e = calm-as NoSpace fault refl e
truncate-calm_by true (Some c) false fits sid inode t fault e = calm-as FileTooLarge fault refl e
truncate-calm_by true None short fits sid inode t fault e = calm-as (Stale (Node inode)) fault refl e
truncate-calm_by false content short fits sid inode t fault e = calm-as (Stale (Session sid)) fault refl e

pub truncate-calm : (t : Tree) (who : Caller) (len : ℕ) (fault : Fault) → truncate t who len ≡ Err fault → IsCalm fault
unfolding truncate
truncate-calm t who len fault e =
    let after = truncated t who.now who.inode len in
    truncate-calm_by (is_some (get t.sessions who.sid)) (content_at t who.inode) (nat_le len FILE_END)
    (fits t after) who.sid who.inode after
    fault e

-- ---- copies

bytes-by : (apart short fits : Bool) (t : Tree) (count : ℕ) (out : Outcome)
    → ((require apart Invalid >>= λ u. require short FileTooLarge >>= λ u. require fits NoSpace >>= λ u. answered t
    (Count count)) ≡ Ok out)
    → out ≡ record { tree = t; reply = Count count }
bytes-by true true true t count out e = cc e
bytes-by _ _ _ t count out e = absurd (cc e)

bytes-calm : (apart short fits : Bool) (t : Tree) (count : ℕ) (fault : Fault)
    → ((require apart Invalid >>= λ u. require short FileTooLarge >>= λ u. require fits NoSpace >>= λ u. answered t
    (Count count)) ≡ Err fault)
    → IsCalm fault
bytes-calm true true true t count fault e = absurd (cc e)
bytes-calm true true false t count fault e = calm-as NoSpace fault refl e
bytes-calm true false fits t count fault e = calm-as FileTooLarge fault refl e
bytes-calm false short fits t count fault e = calm-as Invalid fault refl e

copy-by : (session : Result (Unit {0}) Fault) (source target : Result Content Fault) (next : ℕ
    → Result Outcome Fault) (from len : ℕ) (out : Outcome)
    → ((session >>= λ u. source >>= λ c. target >>= λ u. next (min len (c.length - from))) ≡ Ok out)
    → (count : ℕ) × (next count ≡ Ok out)
copy-by (Ok u) (Ok c) (Ok o) next from len out e = (min len (c.length - from), e)
copy-by _ _ _ next from len out e = absurd (cc e)

copy-calm_by : (session : Bool) (source target : Option Content) (next : ℕ
    → Result Outcome Fault) (from len sid inode other : ℕ) (fault : Fault)
    → ((count : ℕ) → next count ≡ Err fault → IsCalm fault)
    → ((require session (Stale (Session sid)) >>= λ u. some_or source (Stale (Node inode)) >>= λ c. some_or target
    (Stale (Node other))
    >>= λ u. next (min len (c.length - from))) ≡ Err fault)
    → IsCalm fault
copy-calm_by true (Some c) (Some o) next from len sid inode other fault calm e = calm (min len (c.length - from)) e
copy-calm_by true (Some c) None next from len sid inode other fault calm e = calm-as (Stale (Node other)) fault refl e
copy-calm_by true None target next from len sid inode other fault calm e = calm-as (Stale (Node inode)) fault refl e
copy-calm_by false source target next from len sid inode other fault calm e = calm-as (Stale (Session sid)) fault refl e

module _ (t : Tree) (who : Caller) (from to : ℕ) where
  abbrev apart : ℕ → Bool
  apart count = not ((who.inode == who.other) && overlap from to count)

  abbrev after : ℕ → Tree
  after count = copied t who.now who.inode from who.other to count

  pub copy-ok : (len : ℕ) (out : Outcome) → copy t who from to len ≡ Ok out
      → (count : ℕ) × (out ≡ record { tree = after count; reply = Count count })
  unfolding copy
  copy-ok len out e =
      let found = copy-by (in_session t who) (open_content t who.inode) (open_content t who.other)
      (copy_bytes t who from to) from len out e in (
        found.0,
        bytes-by (apart found.0) (nat_le (to + found.0) FILE_END) (fits t (after found.0))
            (after found.0) found.0 out found.1,
      )

  pub copy-calm : (len : ℕ) (fault : Fault) → copy t who from to len ≡ Err fault → IsCalm fault
  unfolding copy
  copy-calm len fault e =
      copy-calm_by (is_some (get t.sessions who.sid)) (content_at t who.inode) (content_at t who.other)
      (copy_bytes t who from to) from len
      who.sid who.inode who.other fault
      (λ count. bytes-calm (apart count) (nat_le (to + count) FILE_END) (fits t (after count))
      (after count) count fault) e
