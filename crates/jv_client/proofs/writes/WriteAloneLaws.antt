-- A write over nothing: its bytes, one after the other, are all that is pending.
use Rattle.std.proofs.Common.{◌≡◌, ℕ, ◌+◌, true, false, List, [], ◌∷◌, length, refl, ap, ◌∙◌, arith}
use Rattle.std.specs.Prelude.{if◌then◌else◌}
use Rattle.std.proofs.lemmas.Bool.Decides.{nat_tests}
use Rattle.jv_model.specs.promise.client.Pending.{PendingByte, byte_set, comes_before, stands_at, written}
use Rattle.jv_pending.proofs.OrderLaws.{length-placed}

abbrev placed : (inode from : ℕ) → List ℕ → List PendingByte
placed inode from [] = []
placed inode from (byte ∷ bytes) =
    record { inode = inode; position = from; byte = byte } ∷ placed inode (from + 1) bytes

set-first : (inode from byte : ℕ) (bytes : List ℕ)
    → byte_set inode from byte (placed inode (from + 1) bytes) ≡ placed inode from (byte ∷ bytes)
set-first inode from byte [] = refl
set-first inode from byte (next ∷ bytes) =
    let new : PendingByte = record { inode = inode; position = from; byte = byte } in
    let later : PendingByte = record { inode = inode; position = from + 1; byte = next } in
    let rest : List PendingByte = placed inode (from + 1 + 1) bytes in
    let apart : stands_at inode from later ≡ false = grind (arith, nat_tests) in
    let before : comes_before inode from later ≡ true = grind (arith, nat_tests) in
    ap (λ b. if b then new ∷ rest else if comes_before inode from later then new ∷ later ∷ rest
    else later ∷ byte_set inode from byte rest) apart
    ∙ ap (λ b. if b then new ∷ later ∷ rest else later ∷ byte_set inode from byte rest) before

written-placed : (inode from : ℕ) (bytes : List ℕ) → written inode from bytes [] ≡ placed inode from bytes
written-placed inode from [] = refl
written-placed inode from (byte ∷ bytes) =
    ap (byte_set inode from byte) (written-placed inode (from + 1) bytes) ∙ set-first inode from byte bytes

pub length-alone : (inode from : ℕ) (bytes : List ℕ) → length (written inode from bytes []) ≡ length bytes
length-alone inode from bytes = ap length (written-placed inode from bytes) ∙ length-placed inode from bytes
