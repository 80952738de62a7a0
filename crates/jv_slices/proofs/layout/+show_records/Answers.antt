use Rattle.std.proofs.Common.{List, All, subst, arith}
use Rattle.jv_model.specs.declared.slice.Rec.{Rec}
use Rattle.jv_model.specs.promise.blocks.Slices.{IsRecord}
use Rattle.jv_slices.proofs.StretchLaws.{all_before}
use Rattle.jv_slices.proofs.layout.+show_records.Goals as goal

pub show_records-requires : goal.show_records-requires
show_records-requires t c = (
  omega (arith, c.in-Some.ensures.cases.1),
  all_before IsRecord c.in-Some.before.now c.in-Some.last.now (subst (λ (rs : List Rec). All IsRecord rs) c.in-Some.ensures.cases.0 c.requires),
)

pub show_records-requires-2 : goal.show_records-requires-2
show_records-requires-2 t c = (
  omega (arith, c.in-Some.ensures.cases.1),
  all_before IsRecord c.in-Some.before.now c.in-Some.last.now (subst (λ (rs : List Rec). All IsRecord rs) c.in-Some.ensures.cases.0 c.requires),
)
