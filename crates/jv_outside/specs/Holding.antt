-- What only inner contracts cite: of `promise/Holding`.
use Rattle.std.specs.Prelude.{◌≡◌, ℕ, List, Option, IfSome, Result, Ok, Err}
use Rattle.std.specs.Option.{option_map}
use Rattle.jv_model.specs.declared.fault.Down.{Down}
use Rattle.jv_outside.specs.promise.Holding.{Holding, FailsToHold}

-- these are the content and the place, and no call failed since
pub record Becomes {M : Type 0} (before after : Holding M) (content : Option M)
    (opened : Option (List ℕ)) : Type 0 where
  pub content_is : after.content ≡ content
  pub opened_at : after.opened ≡ opened
  pub calm : after.faults ≡ before.faults

-- asking what the content has, by the result
abbrev pub Answers : {M X : Type 0} → Holding M → Holding M → Result X Down → (M → X) → Type 0
Answers before after (Ok value) asked =
    Becomes before after before.content before.opened
    × IfSome before.content (λ content. value ≡ asked content)
Answers before after (Err down) asked = FailsToHold before after down

-- changing the content, by the result
abbrev pub Changes : {M : Type 0} → Holding M → Holding M → Result (Unit {0}) Down → (M → M)
    → Type 0
Changes before after (Ok unit) change =
    Becomes before after (option_map change before.content) before.opened
Changes before after (Err down) change = FailsToHold before after down
