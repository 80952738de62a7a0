-- What tests on values mean.
use Rattle.std.proofs.Common.{◌≡◌, ℕ, ◌≤◌, Bool, true, false, List, length, Result, Ok, Err, refl, sym, arith}
use Rattle.std.specs.Prelude.{IsTrue, MatchResult, is_ok, ◌&&◌, nat_le}
use Rattle.std.specs.Str.{IsUtf8, is_utf8}
use Rattle.std.proofs.lemmas.Str.{is_utf8-from_IsUtf8, IsUtf8-from_is_utf8}
use Rattle.std.proofs.lemmas.Bool.{false_from_ne_true}
use Rattle.std.proofs.lemmas.Bool.Decides.{nat_tests}
use Rattle.jv_model.specs.declared.limits.TheConstants.{MAX_BUCKET, MAX_VOLUME_NAME, MIN_VOLUME_NAME}
use Rattle.jv_model.specs.declared.setting.Setting.{Setting}
use Rattle.jv_model.specs.promise.rows.RowGrammar.{is_volume_name, is_bucket, is_setting}

-- whether bytes are text, by the answer of a function that tries them
pub text_test : {X E : Type 0} (bytes : List ℕ) (A : X → Type 0) (B : E → Type 0) (r : Result X E) → MatchResult r (λ s. A s × IsUtf8 bytes) (λ e. ¬ (IsUtf8 bytes) × B e) → is_ok r ≡ is_utf8 bytes
text_test bytes A B (Ok s) h = sym (is_utf8-from_IsUtf8 bytes h.1)
text_test bytes A B (Err e) h = sym (false_from_ne_true (is_utf8 bytes) (λ t. h.0 (IsUtf8-from_is_utf8 bytes t)))

-- both parts of a test that holds
pub both_hold : (a b : Bool) → IsTrue (a && b) → IsTrue a × IsTrue b
both_hold true b h = (refl, h)
both_hold false b h = absurd cc

-- a test of two numbers that holds
pub le_true : {m n : ℕ} → IsTrue (nat_le m n) → m ≤ n
le_true {m} {n} h = grind (arith, nat_tests)

pub bucket_bound : (s : Setting) → IsTrue (is_setting s) → length s.bucket ≤ MAX_BUCKET
bucket_bound s h =
    let bucket : IsTrue (is_bucket s.bucket) = (both_hold _ _ h).1 in
    let sized : IsTrue (nat_le 1 (length s.bucket) && nat_le (length s.bucket) MAX_BUCKET) = (both_hold _ _ bucket).0 in
    let below : IsTrue (nat_le (length s.bucket) MAX_BUCKET) = (both_hold _ _ sized).1 in
    le_true below

pub name_bound : (s : Setting) → IsTrue (is_setting s) → length s.name ≤ MAX_VOLUME_NAME
name_bound s h =
    let name : IsTrue (is_volume_name s.name) = (both_hold _ _ (both_hold _ _ h).0).1 in
    let sized : IsTrue (nat_le MIN_VOLUME_NAME (length s.name) && nat_le (length s.name) MAX_VOLUME_NAME) = (both_hold _ _ (both_hold _ _ (both_hold _ _ name).0).0).0 in
    le_true (both_hold _ _ sized).1
