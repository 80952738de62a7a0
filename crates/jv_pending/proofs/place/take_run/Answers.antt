use Rattle.std.proofs.Common.{◌≡◌, ◌+◌, ◌∙◌, List, ℕ, [], ◌∷◌, take, is_some, ap, sym, subst, arith}
use Rattle.std.proofs.lemmas.List.{take_all}
use Rattle.jv_pending.specs.Runs.{place_of, bytes_at, Rise, runs_before, runs_from, given_back}
use Rattle.jv_pending.proofs.PartLaws.{with_before, with_from}
use Rattle.jv_pending.proofs.EntryLaws.{one_rises, swap_rises, put_there, given_back_is}
use Rattle.jv_pending.proofs.place.take_run.Goals as goal

pub give_back-requires-clause-rise : goal.give_back-requires-clause-rise
give_back-requires-clause-rise c = subst (Rise 0) (sym c.swap_bytes-run.ensures.runs) (swap_rises c.args.start c.requires.file c.make_place.new.runs.entries c.in_ok-is_new.ensures.rise c.new.result)

pub give_back-requires-clause-there : goal.give_back-requires-clause-there
give_back-requires-clause-there c = ap is_some (ap (bytes_at c.args.start) c.swap_bytes-run.ensures.runs ∙ put_there c.args.start c.requires.file c.make_place.new.runs.entries c.in_ok-is_new.ensures.rise c.new.result (place_of c.args.start + 1) (omega arith))

pub returns-in-Ok-clause-rise : goal.returns-in-Ok-clause-rise
returns-in-Ok-clause-rise c = subst (Rise 0) (sym c.swap_bytes-run.ensures.runs) (swap_rises c.args.start c.requires.file c.make_place.new.runs.entries c.in_ok-is_new.ensures.rise c.new.result)

pub returns-in-Ok-clause-there : goal.returns-in-Ok-clause-there
returns-in-Ok-clause-there c = ap is_some (ap (bytes_at c.args.start) c.swap_bytes-run.ensures.runs ∙ put_there c.args.start c.requires.file c.make_place.new.runs.entries c.in_ok-is_new.ensures.rise c.new.result (place_of c.args.start + 1) (omega arith))

pub returns-in-Ok-clause-before : goal.returns-in-Ok-clause-before
returns-in-Ok-clause-before c =
    let made = c.make_place.new.runs.entries in
    let rise = c.in_ok-is_new.ensures.rise in
    ap (runs_before (place_of c.args.start)) c.swap_bytes-run.ensures.runs
    ∙ with_before ((c.args.start, c.new.result) ∷ []) (place_of c.args.start + 1) 0 made (one_rises c.args.start c.requires.file made rise c.new.result) (omega arith, tt) rise (place_of c.args.start) (omega arith)
    ∙ c.in_ok-is_new.ensures.before

pub returns-in-Ok-clause-after : goal.returns-in-Ok-clause-after
returns-in-Ok-clause-after c =
    let made = c.make_place.new.runs.entries in
    let rise = c.in_ok-is_new.ensures.rise in
    ap (runs_from (place_of c.args.start + 1)) c.swap_bytes-run.ensures.runs
    ∙ with_from ((c.args.start, c.new.result) ∷ []) (place_of c.args.start + 1) 0 made (one_rises c.args.start c.requires.file made rise c.new.result) (omega arith, tt) rise (place_of c.args.start + 1) (omega arith)
    ∙ c.in_ok-is_new.ensures.after

pub returns-in-Ok-clause-old : goal.returns-in-Ok-clause-old
returns-in-Ok-clause-old c =
    let run = c.swap_bytes-run.result in
    let mid = c.swap_bytes-run.new.runs.entries in
    let same : take c.len-count.result c.lengthen-lengthened.new.self ≡ run = ap (λ n. take n c.lengthen-lengthened.new.self) c.len-count.ensures.length ∙ c.in-Ok.ensures.same in
    ap (λ (v : List ℕ). given_back c.args.start c.in_ok-is_new.is_new v mid) same
    ∙ given_back_is c.in_ok-is_new.is_new c.args.start c.args.runs.now.entries c.make_place.new.runs.entries mid run c.new.result c.requires.file c.in_ok-is_new.ensures.rise c.swap_bytes-run.ensures.bytes c.swap_bytes-run.ensures.runs c.in_ok-is_new.ensures.old

back : (c : goal.After-give_back) → c.give_back.new.runs.entries ≡ c.args.runs.now.entries
back c =
    let run = c.swap_bytes-run.result in
    let mid = c.swap_bytes-run.new.runs.entries in
    let l = c.len-count.ensures.length in
    let same : take c.len-count.result c.lengthen-lengthened.new.self ≡ run = ap (take c.len-count.result) c.in-Err.ensures.err ∙ take_all c.len-count.result run (omega arith) in
    c.give_back.ensures
    ∙ ap (λ (v : List ℕ). given_back c.args.start c.in_ok-is_new.is_new v mid) same
    ∙ given_back_is c.in_ok-is_new.is_new c.args.start c.args.runs.now.entries c.make_place.new.runs.entries mid run c.new.result c.requires.file c.in_ok-is_new.ensures.rise c.swap_bytes-run.ensures.bytes c.swap_bytes-run.ensures.runs c.in_ok-is_new.ensures.old

pub returns-in-Err-clause-rise : goal.returns-in-Err-clause-rise
returns-in-Err-clause-rise c = subst (Rise 0) (sym (back c)) c.requires.rise

pub returns-in-Err-clause-err : goal.returns-in-Err-clause-err
returns-in-Err-clause-err c = back c
