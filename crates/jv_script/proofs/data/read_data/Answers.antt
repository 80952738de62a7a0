use Rattle.std.proofs.Common.{rules, ◌≡◌, bytes_eq, codes, true, false}
use Rattle.jv_script.proofs.PartLaws.{no_bytes, some_bytes}
use Rattle.jv_script.proofs.data.read_data.Goals as goal

pub returns-then-eq : goal.returns-then-eq
returns-then-eq c =
    let dash : bytes_eq c.args.text.now (codes "-") ≡ true = search rules in
    rw (no_bytes c.args.text.now dash) (search rules)

pub returns-in-Ok : goal.returns-in-Ok
returns-in-Ok c =
    let other : bytes_eq c.args.text.now (codes "-") ≡ false = search rules in
    rw (some_bytes c.args.text.now other, ← c.in-Ok.ensures) (search rules)

pub returns-in-Err : goal.returns-in-Err
returns-in-Err c =
    let other : bytes_eq c.args.text.now (codes "-") ≡ false = search rules in
    rw (some_bytes c.args.text.now other) c.out_of_memory.ensures

pub returns-then-is_pairs : goal.returns-then-is_pairs
returns-then-is_pairs c =
    let other : bytes_eq c.args.text.now (codes "-") ≡ false = search rules in
    rw (some_bytes c.args.text.now other) c.plain.ensures
