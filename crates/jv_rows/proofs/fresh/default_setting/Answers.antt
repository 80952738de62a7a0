-- The default setting is one that rows may have.
use Rattle.std.proofs.Common.{◌≡◌, List, ℕ, true, codes, refl, sym, subst}
use Rattle.std.specs.Str.{is_utf8, chars}
use Rattle.jv_model.specs.declared.setting.Setting.{Setting}
use Rattle.jv_model.specs.promise.rows.RowGrammar.{is_setting}
use Rattle.jv_rows.specs.FreshRows.{default_setting}
use Rattle.jv_rows.proofs.fresh.default_setting.Goals as goal

default_allowed : is_setting default_setting ≡ true
unfolding is_utf8 chars lib.Utf8.encode
default_allowed = refl

abbrev texts_set : List ℕ → List ℕ → Setting
texts_set name bucket = record default_setting { name = name; bucket = bucket }

allowed : (name bucket : List ℕ) → name ≡ codes "juicefs" → bucket ≡ codes ":memory:" → is_setting (texts_set name bucket) ≡ true
allowed name bucket same_name same_bucket =
    subst (λ n. is_setting (texts_set n bucket) ≡ true) (sym same_name)
    (subst (λ b. is_setting (texts_set (codes "juicefs") b) ≡ true) (sym same_bucket) default_allowed)

pub returns-clause-allowed : goal.returns-clause-allowed
returns-clause-allowed c = allowed c.in_ok-copied.field-0 c.in_ok-copied-2.field-0 c.in_ok-copied.ensures c.in_ok-copied-2.ensures
