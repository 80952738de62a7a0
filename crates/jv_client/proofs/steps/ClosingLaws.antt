-- The handle of a close stays open until its operation ends.
use Rattle.std.proofs.Common.{◌≡◌, ℕ, zero, suc, ◌-◌, Bool, true, false, List, [], ◌∷◌, ◌++◌, length, map, slice_get}
use Rattle.std.proofs.Common.{slice_set, Option, None, Some, refl, ◌∙◌}
use Rattle.std.specs.Prelude.{◌==◌, is_some, if◌then◌else◌, nat_le}
use Rattle.jv_model.specs.declared.op.Op.{Op}
use Rattle.jv_model.specs.declared.op.Op.TheVariants as op
use Rattle.jv_model.specs.promise.client.ModelClient.{file_in, file_of, free_handle, with_file}
use Rattle.jv_model.specs.promise.journal.State.{Gift, NewSession, NewHandle, Nothing}
use Rattle.jv_client_handles.specs.declared.handle.Handle.{Handle}
use Rattle.jv_client_handles.specs.Handles.{new_handle, unseen}
use Rattle.jv_client_handles.proofs.UnseenLaws.{some-unseen}
use Rattle.jv_client.specs.UnderWay.{ClosesOpen}
use Rattle.jv_client.specs.Transacting.{handles_given}

-- other handles that have all of the first ones open

pub closes-later : (o : Op) (handles later : List (Option Handle))
    → ((handle : ℕ) → is_some (file_of handles handle) ≡ true → is_some (file_of later handle) ≡ true)
    → ClosesOpen o handles → ClosesOpen o later
closes-later (op.Close handle) handles later keeps closes = keeps handle closes
closes-later _ handles later keeps closes = tt

-- once views of a file are forgotten
pub closes-unseen : (o : Op) (inode : ℕ) (handles : List (Option Handle)) → ClosesOpen o handles
    → ClosesOpen o (map (unseen inode) handles)
closes-unseen o inode handles closes =
    closes-later o handles (map (unseen inode) handles) (λ handle e. some-unseen inode handles handle ∙ e) closes

-- once another handle was given

module _ (new : Handle) where
  some-set : (k n : ℕ) (files : List (Option Handle)) → is_some (file_in (slice_get files n)) ≡ true
      → is_some (file_in (slice_get (slice_set files k (Some new)) n)) ≡ true
  some-set k n [] e = e
  some-set zero zero (file ∷ files) e = refl
  some-set zero (suc n) (file ∷ files) e = e
  some-set (suc k) zero (file ∷ files) e = e
  some-set (suc k) (suc n) (file ∷ files) e = some-set k n files e

  some-longer : (n : ℕ) (files : List (Option Handle)) → is_some (file_in (slice_get files n)) ≡ true
      → is_some (file_in (slice_get (files ++ Some new ∷ []) n)) ≡ true
  some-longer n [] e = absurd (cc e)
  some-longer zero (file ∷ files) e = e
  some-longer (suc n) (file ∷ files) e = some-longer n files e

  some-given : (b : Bool) (k n : ℕ) (files : List (Option Handle)) → is_some (file_in (slice_get files n)) ≡ true
      → is_some (file_in (slice_get (if b then slice_set files k (Some new) else files ++ Some new ∷ []) n)) ≡ true
  some-given true k n files e = some-set k n files e
  some-given false k n files e = some-longer n files e

  unless-zero : (b : Bool) (x y : Option Handle) → (is_some x ≡ true → is_some y ≡ true)
      → is_some (if b then None else x) ≡ true → is_some (if b then None else y) ≡ true
  unless-zero true x y f e = absurd (cc e)
  unless-zero false x y f e = f e

  open-given : (given handle : ℕ) (files : List (Option Handle)) → is_some (file_of files handle) ≡ true
      → is_some (file_of (with_file given (Some new) files) handle) ≡ true
  open-given given handle files e =
      unless-zero (handle == 0) (file_in (slice_get files (handle - 1)))
      (file_in (slice_get (with_file given (Some new) files) (handle - 1)))
      (some-given (nat_le given (length files)) (given - 1) (handle - 1) files) e

pub closes-given : (o : Op) (entry : ℕ) (gift : Gift) (handles : List (Option Handle)) → ClosesOpen o handles
    → ClosesOpen o (handles_given entry gift handles)
closes-given o entry (NewSession sid) handles closes = closes
closes-given o entry Nothing handles closes = closes
closes-given o entry (NewHandle handle inode) handles closes =
    closes-later o handles (with_file (free_handle handles) (Some (new_handle inode entry)) handles)
    (λ at e. open-given (new_handle inode entry) (free_handle handles) at handles e) closes
