use Rattle.std.proofs.Common.{◌+◌, ◌-◌, ◌∙◌, ◌++◌, ℕ, List, [], ◌∷◌, length, drop, is_some, ap, sym, subst, arith}
use Rattle.jv_model.proofs.TestLaws.{some_of}
use Rattle.jv_pending.specs.Runs.{place_of, bytes_at, Rise, with_runs}
use Rattle.jv_pending.proofs.PartLaws.{with_with}
use Rattle.jv_pending.proofs.TouchedLaws.{last_file, last_there, tail_there}
use Rattle.jv_pending.proofs.EntryLaws.{one_rises, swap_rises, swap_over, put_there, put_back, kept_there}
use Rattle.jv_pending.proofs.write.join_before.Goals as goal
use Rattle.std.proofs.lemmas.Option.{same_Some}

pub swap_bytes-run-requires-clause-file : goal.swap_bytes-run-requires-clause-file
swap_bytes-run-requires-clause-file c =
    let l = c.requires.last in
    (last_file (place_of c.args.write.now.end) c.args.runs.now.entries (c.args.last, l.bytes) c.requires.rise l.is_last).0

pub swap_bytes-run-requires-clause-there : goal.swap_bytes-run-requires-clause-there
swap_bytes-run-requires-clause-there c =
    let l = c.requires.last in
    ap is_some (last_there (place_of c.args.write.now.end) c.args.runs.now.entries (c.args.last, l.bytes) c.requires.rise l.is_last)

pub write_before-requires-clause-within : goal.write_before-requires-clause-within
write_before-requires-clause-within c =
    let l = c.requires.last in
    let there = last_there (place_of c.args.write.now.end) c.args.runs.now.entries (c.args.last, l.bytes) c.requires.rise l.is_last in
    let e = ap length (same_Some c.swap_bytes-run.result l.bytes (sym c.swap_bytes-run.ensures.bytes ∙ there)) in
    let m = l.longer in
    let to = c.to.ensures in
    omega arith

pub put_over-requires-clause-rise : goal.put_over-requires-clause-rise
put_over-requires-clause-rise c =
    let l = c.requires.last in
    let rs = c.args.runs.now.entries in
    let f = last_file (place_of c.args.write.now.end) rs (c.args.last, l.bytes) c.requires.rise l.is_last in
    subst (Rise 0) (sym c.swap_bytes-run.ensures.runs) (swap_rises c.args.last f.0 rs c.requires.rise c.new.result)

pub put_over-requires-clause-forward : goal.put_over-requires-clause-forward
put_over-requires-clause-forward c =
    let l = c.requires.last in
    let b = l.behind in
    let f = (last_file (place_of c.args.write.now.end) c.args.runs.now.entries (c.args.last, l.bytes) c.requires.rise l.is_last).1 in
    omega arith

pub put_over-requires-clause-there : goal.put_over-requires-clause-there
put_over-requires-clause-there c =
    let l = c.requires.last in
    let rs = c.args.runs.now.entries in
    let f = last_file (place_of c.args.write.now.end) rs (c.args.last, l.bytes) c.requires.rise l.is_last in
    let v = some_of _ c.requires.there in
    ap is_some (ap (bytes_at c.args.write.now.first) c.swap_bytes-run.ensures.runs ∙ kept_there c.args.write.now.first c.args.last rs v.0 c.new.result c.requires.start f.0 l.behind c.requires.rise v.1)

pub swap_bytes-requires-clause-rise : goal.swap_bytes-requires-clause-rise
swap_bytes-requires-clause-rise c =
    let l = c.requires.last in
    let rs = c.args.runs.now.entries in
    let f = last_file (place_of c.args.write.now.end) rs (c.args.last, l.bytes) c.requires.rise l.is_last in
    subst (Rise 0) (sym c.swap_bytes-run.ensures.runs) (swap_rises c.args.last f.0 rs c.requires.rise c.new.result)

pub swap_bytes-requires-clause-file : goal.swap_bytes-requires-clause-file
swap_bytes-requires-clause-file c =
    let l = c.requires.last in
    (last_file (place_of c.args.write.now.end) c.args.runs.now.entries (c.args.last, l.bytes) c.requires.rise l.is_last).0

pub swap_bytes-requires-clause-there : goal.swap_bytes-requires-clause-there
swap_bytes-requires-clause-there c =
    let l = c.requires.last in
    let rs = c.args.runs.now.entries in
    let f = last_file (place_of c.args.write.now.end) rs (c.args.last, l.bytes) c.requires.rise l.is_last in
    ap is_some (ap (bytes_at c.args.last) c.swap_bytes-run.ensures.runs ∙ put_there c.args.last f.0 rs c.requires.rise c.new.result (place_of c.args.last + 1) (omega arith))

pub returns-in-Ok-clause-ok : goal.returns-in-Ok-clause-ok
returns-in-Ok-clause-ok c =
    let l = c.requires.last in
    let rs = c.args.runs.now.entries in
    let high = place_of c.args.write.now.end in
    let b = l.behind in
    let f = last_file high rs (c.args.last, l.bytes) c.requires.rise l.is_last in
    let up = f.1 in
    let was = same_Some c.swap_bytes-run.result l.bytes (sym c.swap_bytes-run.ensures.bytes ∙ last_there high rs (c.args.last, l.bytes) c.requires.rise l.is_last) in
    let to : ℕ = c.args.write.now.from + length c.args.write.now.bytes.now in
    let put = c.write_before.new.self in
    c.put_over.ensures
    ∙ ap (with_runs ((c.args.write.now.first, put) ∷ []) high) c.swap_bytes-run.ensures.runs
    ∙ with_with ((c.args.write.now.first, put) ∷ []) ((c.args.last, c.new.result) ∷ []) high (place_of c.args.last + 1) 0 rs (one_rises c.args.last f.0 rs c.requires.rise c.new.result) (omega arith, tt) c.requires.rise (omega arith) (omega arith)
    ∙ ap (λ (x : List ℕ). with_runs ((c.args.write.now.first, x) ∷ []) high rs)
    (c.in-Ok.ensures.ok
    ∙ ap (λ (x : List ℕ). c.args.head.now ++ (c.args.write.now.bytes.now ++ x))
    (ap (λ n. drop (n - c.args.last.from) c.swap_bytes-run.result) c.to.ensures
    ∙ ap (drop (to - c.args.last.from)) was ∙ sym (tail_there (place_of c.args.write.now.first + 1) high to rs (c.args.last, l.bytes) c.requires.rise l.is_last (omega arith))))

pub returns-in-Err-clause-err : goal.returns-in-Err-clause-err
returns-in-Err-clause-err c =
    let l = c.requires.last in
    let rs = c.args.runs.now.entries in
    let f = last_file (place_of c.args.write.now.end) rs (c.args.last, l.bytes) c.requires.rise l.is_last in
    let back = c.write_before.new.self in
    c.swap_bytes.ensures.runs
    ∙ ap (with_runs ((c.args.last, back) ∷ []) (place_of c.args.last + 1)) c.swap_bytes-run.ensures.runs
    ∙ swap_over c.args.last f.0 rs c.requires.rise c.new.result back (place_of c.args.last + 1) (omega arith)
    ∙ ap (λ (x : List ℕ). with_runs ((c.args.last, x) ∷ []) (place_of c.args.last + 1) rs) c.in-Err.ensures.err
    ∙ put_back c.args.last f.0 rs c.requires.rise c.swap_bytes-run.result c.swap_bytes-run.ensures.bytes
