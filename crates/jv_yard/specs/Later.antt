-- What workers can have made of a yard while main didn't have it.
use Rattle.std.specs.Prelude.{◌≡◌, ◌⊎◌, ℕ, ◌<◌, ◌≤◌, List, ◌++◌, None, Some, IsSome, All, Contains}
use Rattle.jv_model.specs.declared.setting.Setting.{Setting}
use Rattle.jv_model.specs.promise.blocks.BlockNames.{IsBlockName}
use Rattle.jv_model.specs.promise.FiniteMap.{get}
use Rattle.jv_outside.specs.promise.Objects.{ObjectMap, bytes_at}
use Rattle.jv_outside.specs.promise.Blocks.{StagedMap, staged_at}
use Rattle.jv_yard.specs.declared.note.Note.{Note}
use Rattle.jv_yard.specs.declared.note.What.TheVariants.{Publish}
use Rattle.jv_yard.specs.promise.Staging.{Staging, staged_since}
use Rattle.jv_yard.specs.promise.YardValue.{YardValue}

-- the notes have one that this block of a client was published
pub record HasPublish (setting : Setting) (notes : List Note) (client : ℕ)
    (name : List ℕ) : Type 0 where
  pub note : Note
  pub among : Contains notes note
  pub what : note.what ≡ Publish
  pub who : note.client ≡ client
  pub block : IsBlockName setting note.block name

-- a yard's objects, the blocks of its shelf, and the staged ones
pub record Contents : Type 0 where
  pub objects : ObjectMap
  pub blocks : StagedMap
  pub staged : Staging

-- a client has a block of this name and these bytes staged, since this moment or before
pub record WasStaged (contents : Contents) (name bytes : List ℕ) (at : ℕ) : Type 0 where
  pub client : ℕ
  pub since : ℕ
  pub is : staged_since client name contents.staged ≡ Some since
  pub bytes_are : staged_at client name contents.blocks ≡ Some bytes
  pub before : since ≤ at

-- a client has a block of this name and these bytes staged
pub record IsStagedWith (contents : Contents) (name bytes : List ℕ) : Type 0 where
  pub client : ℕ
  pub is : IsSome (staged_since client name contents.staged)
  pub bytes_are : staged_at client name contents.blocks ≡ Some bytes

-- an object or a staged block of this name has these bytes
abbrev pub IsCopy : Contents → List ℕ → List ℕ → Type 0
IsCopy contents name bytes =
    (bytes_at name contents.objects ≡ Some bytes) ⊎ IsStagedWith contents name bytes

-- all copies of one name have equal bytes
abbrev pub AreAlike : Contents → Type 0
AreAlike contents = (name first second : List ℕ) → IsCopy contents name first
    → IsCopy contents name second → first ≡ second

-- an object that stayed, maybe published again from a staged block
pub record IsLeft (before after : Contents) (name bytes : List ℕ) (at : ℕ) : Type 0 where
  pub now : ℕ
  pub is : get after.objects name ≡ Some (bytes, now)
  pub since : (now ≡ at) ⊎ WasStaged before name bytes now

-- Staged blocks were published, some of them more than once, and some of those that were are staged
-- no more. All else is the same.
pub record IsPublishedFrom (before after : Contents) : Type 0 where
  pub kept : (name bytes : List ℕ) (at : ℕ) → get before.objects name ≡ Some (bytes, at)
      → IsLeft before after name bytes at
  pub new : (name bytes : List ℕ) (at : ℕ) → get before.objects name ≡ None
      → get after.objects name ≡ Some (bytes, at) → WasStaged before name bytes at
  pub staged : (client : ℕ) (name : List ℕ) → IsSome (staged_since client name after.staged)
      → staged_at client name after.blocks ≡ staged_at client name before.blocks
  pub gone : (client : ℕ) (name bytes : List ℕ) → IsSome (staged_since client name before.staged)
      → staged_since client name after.staged ≡ None
      → staged_at client name before.blocks ≡ Some bytes → bytes_at name after.objects ≡ Some bytes

-- contents that are known still are, and came from those before
pub record ContentsLater (before : Contents) (after : YardValue) : Type 0 where
  pub objects : ObjectMap
  pub objects_are : after.depot.content ≡ Some objects
  pub blocks : StagedMap
  pub blocks_are : after.shelf.content ≡ Some blocks
  pub published : IsPublishedFrom before
      (record { objects = objects; blocks = blocks; staged = after.staged })

abbrev pub contents_of : ObjectMap → StagedMap → YardValue → Contents
contents_of objects blocks yard =
    record { objects = objects; blocks = blocks; staged = yard.staged }

-- A yard that main takes after it gave another one: workers have published staged blocks and noted
-- what they did, and nothing else. What this says of bytes stands where both devices are known and
-- all copies of one name had equal bytes.
pub record Later (before after : YardValue) : Type 0 where
  pub notes : List Note
  pub log : after.log ≡ before.log ++ notes
  pub by_workers : All (λ note. 0 < note.by) notes
  pub setting : after.setting ≡ before.setting
  pub last : after.last ≡ before.last
  pub staged : (client : ℕ) (name : List ℕ) (since : ℕ)
      → staged_since client name after.staged ≡ Some since
      → staged_since client name before.staged ≡ Some since
  pub gone : (client : ℕ) (name : List ℕ) → IsSome (staged_since client name before.staged)
      → staged_since client name after.staged ≡ None
      → HasPublish before.setting notes client name
  pub contents : (objects : ObjectMap) (blocks : StagedMap) → before.depot.content ≡ Some objects
      → before.shelf.content ≡ Some blocks
      → AreAlike (contents_of objects blocks before)
      → ContentsLater (contents_of objects blocks before) after
