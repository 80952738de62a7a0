use Rattle.std.proofs.Common.{◌≡◌, ◌+◌, ◌-◌, ◌∙◌, List, ℕ, [], ◌∷◌, Some, length, ap, sym}
use Rattle.std.specs.Option.{option_copied_mut}
use Rattle.jv_pending.specs.Runs.{place_of, bytes_at, with_runs, joined_behind}
use Rattle.jv_pending.proofs.PartLaws.{Rise-order}
use Rattle.jv_pending.proofs.EntryLaws.{swapped, put_back}
use Rattle.jv_pending.proofs.OneRunLaws.{file_only, reaches_only, order_only, written_only, count_only}
use Rattle.jv_pending.proofs.write.write_into.Goals as goal

pub grow-requires : goal.grow-requires
grow-requires c =
    reaches_only c.args.from c.args.bytes.now c.args.first c.args.runs.now.entries c.requires.order c.requires.some c.requires.file c.requires.only
    c.unwrap.result.now (sym c.get_mut.ensures.value ∙ ap option_copied_mut c.unwrap.ensures)

there : (c : goal.In-Ok) → bytes_at c.args.first c.args.runs.now.entries ≡ Some c.unwrap.result.now
there c = sym c.get_mut.ensures.value ∙ ap option_copied_mut c.unwrap.ensures

new : (c : goal.In-Ok) → (c.get_mut.follows.lender c.grow.new.self).entries ≡ with_runs ((c.args.first, joined_behind (c.args.from - c.args.first.from) c.unwrap.result.now c.args.bytes.now []) ∷ []) (place_of c.args.first + 1) c.args.runs.now.entries
new c =
    let old = c.args.runs.now.entries in
    let file = file_only c.args.from c.args.bytes.now c.args.first old c.requires.order c.requires.some c.requires.file c.requires.only c.unwrap.result.now (there c) in
    (c.get_mut.follows.holds c.grow.new.self).0
    ∙ swapped c.args.first file old (Rise-order 0 old c.requires.order) c.unwrap.result.now c.grow.new.self (there c)
    ∙ ap (λ (v : List ℕ). with_runs ((c.args.first, v) ∷ []) (place_of c.args.first + 1) old) c.in-Ok.ensures.ok

pub returns-in-Ok-clause-order : goal.returns-in-Ok-clause-order
returns-in-Ok-clause-order c =
    order_only c.args.from c.args.bytes.now c.args.first c.args.runs.now.entries c.requires.order c.requires.some c.requires.file c.requires.only
    c.unwrap.result.now (there c) (c.get_mut.follows.lender c.grow.new.self).entries (new c)

pub returns-in-Ok-clause-ok : goal.returns-in-Ok-clause-ok
returns-in-Ok-clause-ok c =
    written_only c.args.from c.args.bytes.now c.args.first c.args.runs.now.entries c.requires.order c.requires.some c.requires.file c.requires.only
    c.unwrap.result.now (there c) (c.get_mut.follows.lender c.grow.new.self).entries (new c)

pub returns-in-Ok-clause-more : goal.returns-in-Ok-clause-more
returns-in-Ok-clause-more c =
    count_only c.args.from c.args.bytes.now c.args.first c.args.runs.now.entries c.requires.order c.requires.some c.requires.file c.requires.only
    c.unwrap.result.now (there c) (c.get_mut.follows.lender c.grow.new.self).entries (new c) c.in-Ok.more (c.in-Ok.ensures.more ∙ ap length c.in-Ok.ensures.ok)

pub returns-in-Err-clause-err : goal.returns-in-Err-clause-err
returns-in-Err-clause-err c =
    let old = c.args.runs.now.entries in
    let run = c.unwrap.result.now in
    let is = sym c.get_mut.ensures.value ∙ ap option_copied_mut c.unwrap.ensures in
    let rise = Rise-order 0 old c.requires.order in
    let file = file_only c.args.from c.args.bytes.now c.args.first old c.requires.order c.requires.some c.requires.file c.requires.only run is in
    (c.get_mut.follows.holds c.grow.new.self).0
    ∙ swapped c.args.first file old rise run c.grow.new.self is
    ∙ ap (λ (v : List ℕ). with_runs ((c.args.first, v) ∷ []) (place_of c.args.first + 1) old) c.in-Err.ensures.err
    ∙ put_back c.args.first file old rise run is
