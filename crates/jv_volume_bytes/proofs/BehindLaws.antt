-- Laws of counts that are still to follow lists: none at first, and with each list that changes, its records that went and came.
use Rattle.std.proofs.Common.{◌≡◌, ℕ, ◌+◌, ◌<◌, List, [], ◌++◌, cond, arith}
use Rattle.std.specs.Prelude.{◌==◌}
use Rattle.std.proofs.lemmas.List.Sums.{sum_by-append}
use Rattle.jv_model.specs.declared.slice.Rec.{Rec}
use Rattle.jv_volume.specs.promise.TypedRows.{Rows}
use Rattle.jv_volume.specs.promise.Slices.{named_by, records_naming, slice_count, WholeSlices}
use Rattle.jv_volume_bytes.specs.Counts.{Behind}

pub naming-append : (id : ℕ) (l rs : List Rec) → records_naming id (l ++ rs) ≡ records_naming id l + records_naming id rs
naming-append id l rs = sum_by-append (λ (r : Rec). cond (r.id == id) 1 0) l rs

pub behind-none : (rows : Rows) → WholeSlices rows → Behind rows [] []
behind-none rows w = record { by = λ id some. (let exact = w.exact id some in omega (arith, exact)) }

-- a change of the records of lists, while counts stay
pub behind-more : (rows after : Rows) (gone added old new : List Rec) → Behind rows gone added
    → ((id : ℕ) → slice_count after id ≡ slice_count rows id)
    → ((id : ℕ) → 0 < id → named_by after id + records_naming id old ≡ named_by rows id + records_naming id new)
    → Behind after (gone ++ old) (added ++ new)
behind-more rows after gone added old new behind same change = record {
  by = λ id some.
      (let was = behind.by id some in
      let less = naming-append id gone old in
      let more = naming-append id added new in
      let count = same id in
      let names = change id some in
      omega (arith, was, less, more, count, names));
}

-- records that went and came again, or that name no slice, count for nothing
pub behind-as : (rows : Rows) (gone added less more : List Rec) → Behind rows gone added
    → ((id : ℕ) → 0 < id → records_naming id less + records_naming id added ≡ records_naming id more + records_naming id gone)
    → Behind rows less more
behind-as rows gone added less more behind same = record {
  by = λ id some. (let was = behind.by id some in let e = same id some in omega (arith, was, e));
}
