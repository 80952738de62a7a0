-- What is printed of DATA so far, and the text of the bytes to come.
use Rattle.std.proofs.Common.{nat_le, ◌≡◌, ℕ, ◌<◌, ◌==◌, Bool, true, false, not, cond, List, [], ◌∷◌, ◌++◌, length, replicate, refl, sym, ap, ◌∙◌, arith}
use Rattle.std.proofs.lemmas.Bool.{ne_eqb}
use Rattle.std.proofs.lemmas.List.{append-nil, append_assoc}
use Rattle.jv_model.specs.promise.script.Printed.{ByteRepeat, repeats_of, DataPart, Plain, Repeated, with_short, parts_of, part_text}
use Rattle.jv_script.specs.Printing.{joint, joined, rest_text}
use Rattle.jv_script.proofs.RepeatLaws.{with_byte-first}

-- bytes of which some are there have a part
some_parts : (bytes : List ℕ) → 0 < length bytes → (part : DataPart) × (parts : List DataPart) × (parts_of (repeats_of bytes) ≡ part ∷ parts)
some_parts [] some = absurd (omega arith)
some_parts (byte ∷ bytes) some =
    let first = with_byte-first byte (repeats_of bytes) in
    let (part, parts, are) = of_run (record { byte = byte; count = first.0 }) first.1 in
    (part, parts, ap parts_of first.3 ∙ are)
  where
    after_short : (bytes : List ℕ) (parts : List DataPart) → (part : DataPart) × (more : List DataPart) × (with_short bytes parts ≡ part ∷ more)
    after_short bytes [] = (Plain bytes, [], refl)
    after_short bytes (Plain more ∷ parts) = (Plain (bytes ++ more), parts, refl)
    after_short bytes (Repeated run ∷ parts) = (Plain bytes, Repeated run ∷ parts, refl)

    of_run : (run : ByteRepeat) (runs : List ByteRepeat) → (part : DataPart) × (parts : List DataPart) × (parts_of (run ∷ runs) ≡ part ∷ parts)
    of_run run runs = by_test (nat_le 4 run.count)
      where
        by_test : (v : Bool) → (part : DataPart) × (parts : List DataPart) × (cond v (Repeated run ∷ parts_of runs) (with_short (replicate run.count run.byte) (parts_of runs)) ≡ part ∷ parts)
        by_test true = (Repeated run, parts_of runs, refl)
        by_test false = after_short (replicate run.count run.byte) (parts_of runs)

-- a part, and the text of the bytes after it
joined_before : (part : DataPart) (bytes : List ℕ) → joined (part ∷ parts_of (repeats_of bytes)) ≡ part_text part ++ (joint (not (length bytes == 0)) ++ rest_text bytes)
joined_before part [] = sym (append-nil (part_text part))
joined_before part (byte ∷ bytes) =
    let (next, parts, are) = some_parts (byte ∷ bytes) (omega arith) in
    let some : length (byte ∷ bytes) == 0 ≡ false = ne_eqb (length (byte ∷ bytes)) 0 (λ e. absurd (omega (arith, e))) in
    rw some
    (ap (λ (parts : List DataPart). joined (part ∷ parts)) are
    ∙ sym (ap (λ (text : List ℕ). part_text part ++ 43 ∷ text) (ap joined are)))

-- a part is printed
pub part_printed : (old new bytes rest : List ℕ) (part : DataPart) → new ≡ (old ++ part_text part) ++ joint (not (length rest == 0)) → parts_of (repeats_of bytes) ≡ part ∷ parts_of (repeats_of rest)
    → new ++ rest_text rest ≡ old ++ rest_text bytes
part_printed old new bytes rest part printed parts =
    let after = joint (not (length rest == 0)) in
    let more = rest_text rest in
    ap (λ (text : List ℕ). text ++ more) printed
    ∙ append_assoc (old ++ part_text part) after more
    ∙ append_assoc old (part_text part) (after ++ more)
    ∙ ap (λ (text : List ℕ). old ++ text) (sym (joined_before part rest) ∙ sym (ap joined parts))
