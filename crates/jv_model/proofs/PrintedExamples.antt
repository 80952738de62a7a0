-- Bytes, as they are printed.
use Rattle.std.proofs.Common.{◌≡◌, ◌++◌, refl, replicate, codes}
use Rattle.std.specs.Prelude.{⊤}
use Rattle.std.specs.Fmt.{digits}
use Rattle.jv_model.specs.promise.script.Printed.{data_text}

-- on an `unfolding` line: computes the text of bytes that are written out
unfoldable pub bytes_on_literals : ⊤
unfolding digits data_text
bytes_on_literals = tt

-- a run of three is plain, one of four isn't, and runs of two stand in one part
pub runs : (data_text (replicate 3 97) ≡ codes "616161") × (data_text (replicate 4 97) ≡ codes "61x4") × (data_text (replicate 10 97) ≡ codes "61x10") × (data_text (replicate 3 97 ++ replicate 2 98) ≡ codes "6161616262")
unfolding bytes_on_literals
runs = (refl, refl, refl, refl)

-- parts are joined by `+`
pub parts : (data_text (replicate 4 0 ++ replicate 3 97) ≡ codes "00x4+616161") × (data_text (replicate 3 97 ++ replicate 2 98 ++ replicate 5 97 ++ replicate 2 0) ≡ codes "6161616262+61x5+0000") × (data_text (codes "hel" ++ replicate 7 0) ≡ codes "68656c+00x7") × (data_text (replicate 4 0 ++ replicate 4 255) ≡ codes "00x4+ffx4")
unfolding bytes_on_literals
parts = (refl, refl, refl, refl)
