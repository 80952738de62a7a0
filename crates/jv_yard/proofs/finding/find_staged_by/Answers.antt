-- A page is read, and the next one begins where it ended.
use Rattle.std.proofs.Common.{◌∙◌, refl}
use Rattle.std.specs.Option.{option_copied}
use Rattle.jv_yard.proofs.PageLaws.{found-nothing, page-turned, page-ended}
use Rattle.jv_yard.proofs.finding.find_staged_by.Goals as goal

pub pages-init : goal.pages-init
pages-init g c = rw c.new-found.ensures (record { same = refl; found = found-nothing c.args.setting.now _ c.args.c })

pub returns-then-is_none : goal.returns-then-is_none
returns-then-is_none g c = (
  c.in_ok-names.ensures.0 ∙ c.pages.invariant.same,
  page-ended c.args.setting.now (g.H.Shelf.seen c.args.shelf.now) (g.H.Shelf.seen c.pages.shelf) c.args.c c.pages.last (option_copied c.as_ref.result)
      c.in_ok-names.names c.pages.found c.add_names.new.found c.pages.invariant.same c.as_ref.ensures.value c.in_ok-names.ensures.1
      c.pages.invariant.found c.in_ok-add_names.ensures c.in_ok-last.last c.in_ok-last.ensures c.is_none.result c.is_none.ensures c.if-is_none.true,
)

pub pages-preserved : goal.pages-preserved
pages-preserved g c = record {
  same = c.in_ok-names.ensures.0 ∙ c.pages.invariant.same;
  found = page-turned c.args.setting.now (g.H.Shelf.seen c.args.shelf.now) (g.H.Shelf.seen c.pages.shelf) c.args.c c.pages.last (option_copied c.as_ref.result)
      c.in_ok-names.names c.pages.found c.add_names.new.found c.pages.invariant.same c.as_ref.ensures.value c.in_ok-names.ensures.1
      c.pages.invariant.found c.in_ok-add_names.ensures c.in_ok-last.last c.in_ok-last.ensures c.is_none.result c.is_none.ensures c.if-is_none.false;
}
