use Rattle.std.proofs.Common.{◌≡◌, ◌+◌, ◌∙◌, List, ℕ, [], ◌∷◌, Bool, false, Option, None, ap, sym, subst, arith}
use Rattle.std.specs.Option.{is_some}
use Rattle.jv_pending.specs.Runs.{place_of, bytes_at, Rise, runs_before, runs_from, without_run, with_runs}
use Rattle.jv_pending.proofs.PartLaws.{with_before, with_from, with_rise}
use Rattle.jv_pending.proofs.EntryLaws.{inserted, one_rises, unmade}
use Rattle.jv_pending.proofs.place.make_place.Goals as goal

made : (c : goal.Joined-insert-2) → c.insert.new.self.entries ≡ with_runs ((c.args.start, []) ∷ []) (place_of c.args.start + 1) c.args.runs.now.entries
made c =
    c.in-Ok.ensures.entries ∙ inserted c.args.start c.requires.file 0 c.args.runs.now.entries c.new.result c.requires.rise
    ∙ ap (λ (v : List ℕ). with_runs ((c.args.start, v) ∷ []) (place_of c.args.start + 1) c.args.runs.now.entries) c.new.ensures

none_there : (o : Option (List ℕ)) (b : Bool) → b ≡ is_some o → b ≡ false → o ≡ None
none_there o b e f = grind arith

pub returns-in-Ok-clause-rise : goal.returns-in-Ok-clause-rise
returns-in-Ok-clause-rise c =
    subst (Rise 0) (sym (made c))
    (with_rise ((c.args.start, []) ∷ []) (place_of c.args.start + 1) 0 c.args.runs.now.entries (one_rises c.args.start c.requires.file c.args.runs.now.entries c.requires.rise []) (omega arith, tt) c.requires.rise)

pub returns-in-Ok-clause-before : goal.returns-in-Ok-clause-before
returns-in-Ok-clause-before c =
    ap (runs_before (place_of c.args.start)) (made c)
    ∙ with_before ((c.args.start, []) ∷ []) (place_of c.args.start + 1) 0 c.args.runs.now.entries (one_rises c.args.start c.requires.file c.args.runs.now.entries c.requires.rise []) (omega arith, tt) c.requires.rise (place_of c.args.start) (omega arith)

pub returns-in-Ok-clause-after : goal.returns-in-Ok-clause-after
returns-in-Ok-clause-after c =
    ap (runs_from (place_of c.args.start + 1)) (made c)
    ∙ with_from ((c.args.start, []) ∷ []) (place_of c.args.start + 1) 0 c.args.runs.now.entries (one_rises c.args.start c.requires.file c.args.runs.now.entries c.requires.rise []) (omega arith, tt) c.requires.rise (place_of c.args.start + 1) (omega arith)

pub returns-in-Ok-clause-old : goal.returns-in-Ok-clause-old
returns-in-Ok-clause-old c =
    let none : bytes_at c.args.start c.args.runs.now.entries ≡ None = none_there _ _ c.contains_key.ensures c.if-contains_key.false in
    unmade c.args.start c.requires.file c.args.runs.now.entries c.requires.rise none
    ∙ ap (without_run c.args.start) (sym (made c))
