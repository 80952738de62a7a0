-- Rows that are read from bytes have a setting that the grammar allows, so blocks have a length from 64 KiB to 16 MiB.
use Rattle.std.proofs.Common.{◌≡◌, ℕ, Bool, true, false, List, [], ◌∷◌, Option, None, Some, refl, sym, ap, subst, ◌∙◌, arith}
use Rattle.std.specs.Prelude.{◌&&◌, ◌||◌, ◌==◌, if◌then◌else◌, IfSome, ok_or}
use Rattle.std.specs.List.{AllByRecursion, list_any}
use Rattle.std.specs.Option.{option_map}
use Rattle.std.proofs.lemmas.Bool.{eqb-true, and_parts}
use Rattle.jv_model.specs.declared.row.Row.{Row}
use Rattle.jv_model.specs.declared.row.Row.TheVariants.{OfSetting}
use Rattle.jv_model.specs.declared.setting.Setting.{Setting}
use Rattle.jv_model.specs.promise.FiniteMap.{get}
use Rattle.jv_model.specs.promise.rows.RowFields.{whole, byte_at, front_at, half_at, word_at, long_at}
use Rattle.jv_model.specs.promise.rows.RowGrammar.{block_sizes, is_block_length, is_setting, row_of, setting_of}
use Rattle.jv_model.specs.promise.rows.RowKeys.{RowMap}
use Rattle.jv_model.specs.promise.rows.RowPlaces.{setting_key}
use Rattle.jv_model.proofs.TestLaws.{then_all}
use Rattle.jv_model.specs.promise.Lists.{is_nil}
use Rattle.jv_volume.specs.promise.TypedRows.{cell_of, typed}
use Rattle.jv_volume.specs.promise.Views.{row_in, setting_in, setting_at}
use Rattle.jv_volume.proofs.maps.TypedLaws.{get-typed}
use Rattle.jv_client_shared.specs.Lengths.{IsLength}

one_of : (block : ℕ) (sizes : List ℕ) → AllByRecursion IsLength sizes → list_any (λ n. n == block) sizes ≡ true → IsLength block
one_of block [] all h = absurd (cc)
one_of block (size ∷ sizes) (first, others) h = by_test (size == block) refl h (one_of block sizes others)
  where
    by_test : (b : Bool) → (size == block) ≡ b → (b || list_any (λ n. n == block) sizes) ≡ true
        → (list_any (λ n. n == block) sizes ≡ true → IsLength block) → IsLength block
    by_test true e h later = subst IsLength (eqb-true size block e) first
    by_test false e h later = later h

a_length : (block : ℕ) → is_block_length block ≡ true → IsLength block
a_length block h = one_of block block_sizes lengths h
  where
    lengths : AllByRecursion IsLength block_sizes
    lengths = (
      record { least = omega arith; most = omega arith },
      (
        record { least = omega arith; most = omega arith },
        (
          record { least = omega arith; most = omega arith },
          (
            record { least = omega arith; most = omega arith },
            (
              record { least = omega arith; most = omega arith },
              (
                record { least = omega arith; most = omega arith },
                (
                  record { least = omega arith; most = omega arith },
                  (
                    record { least = omega arith; most = omega arith },
                    (
                      record { least = omega arith; most = omega arith },
                      tt,
                    ),
                  ),
                ),
              ),
            ),
          ),
        ),
      ),
    )

-- a setting that the grammar allows
pub allowed_length : (setting : Setting) → is_setting setting ≡ true → IsLength setting.block
allowed_length setting h =
    a_length setting.block (and_parts _ _ (and_parts _ _ (and_parts _ _ (and_parts _ _ (and_parts _ _ (and_parts _ _ (and_parts _ _ h).0).0).0).0).0).0).1

whole_length : (setting : Setting) (rest : List ℕ) → IfSome (whole is_setting setting rest) (λ s. IsLength s.block)
whole_length setting rest = by_test (is_nil rest && is_setting setting) refl
  where
    by_test : (b : Bool) → (is_nil rest && is_setting setting) ≡ b → IfSome (if b then Some setting else None) (λ s. IsLength s.block)
    by_test true e = allowed_length setting (and_parts _ _ e).1
    by_test false e = tt

read_length : (bytes : List ℕ) → IfSome (setting_of bytes) (λ s. IsLength s.block)
unfolding setting_of
read_length bytes =
    then_all (word_at bytes) _ _ (λ version. then_all (word_at version.1) _ _ (λ block. then_all (word_at block.1) _ _ (λ trash_days.
    then_all (long_at trash_days.1) _ _ (λ capacity. then_all (long_at capacity.1) _ _ (λ inodes. then_all (byte_at inodes.1) _ _ (λ hash.
    then_all (byte_at hash.1) _ _ (λ name_length. then_all (front_at name_length.0 name_length.1) _ _ (λ name. then_all (half_at name.1) _ _ (λ bucket_length.
    then_all (front_at bucket_length.0 bucket_length.1) _ _ (λ bucket. whole_length
    (record { version = version.0; block = block.0; trash_days = trash_days.0; capacity = capacity.0; inodes = inodes.0; hash = hash.0; name = name.0; bucket = bucket.0 })
    bucket.1))))))))))

row_length : (bytes : List ℕ) (setting : Setting) → row_of setting_key.tab bytes ≡ Some (OfSetting setting) → IsLength setting.block
unfolding row_of
row_length bytes setting e = by_setting (setting_of bytes) (read_length bytes) e
  where
    by_setting : (o : Option Setting) → IfSome o (λ s. IsLength s.block) → option_map OfSetting o ≡ Some (OfSetting setting) → IsLength setting.block
    by_setting None h e = absurd (cc)
    by_setting (Some read) h e = (let same : read ≡ setting = cc in subst (λ (s : Setting). IsLength s.block) same h)

-- The blocks of a volume have a length that is allowed.
pub setting_length : (rows : RowMap) (setting : Setting) → setting_at (typed rows) ≡ Some setting → IsLength setting.block
setting_length rows setting is = by_bytes (get rows setting_key) (sym (ap (λ c. setting_in (row_in c)) (get-typed rows setting_key)) ∙ is)
  where
    by_row : (bytes : List ℕ) (o : Option Row) → row_of setting_key.tab bytes ≡ o → setting_in (row_in (Some (ok_or o bytes))) ≡ Some setting → IsLength setting.block
    by_row bytes None e h = absurd (cc)
    by_row bytes (Some (OfSetting read)) e h = row_length bytes setting (e ∙ (let same : read ≡ setting = cc in ap (λ s. Some (OfSetting s)) same))
    by_row bytes (Some _) e h = absurd (cc)

    by_bytes : (o : Option (List ℕ)) → setting_in (row_in (option_map (cell_of setting_key) o)) ≡ Some setting → IsLength setting.block
    by_bytes None h = absurd (cc)
    by_bytes (Some bytes) h = by_row bytes (row_of setting_key.tab bytes) refl h
