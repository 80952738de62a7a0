-- On what a session over a whole volume leaves, the next session may begin.
use Rattle.std.proofs.Common.{◌≡◌, ℕ, ◌<◌, ◌≤◌, Bool, true, false, List, None, Some, IsSome, is_some, inl, inr, refl, sym, ap, subst, ◌∙◌}
use Rattle.std.specs.Prelude.{◌⊎◌, ◌&&◌, if◌then◌else◌}
use Rattle.std.proofs.lemmas.Bool.{false≢true, cases_lt}
use Rattle.jv_model.specs.declared.limits.TheConstants.{LAST_CLIENT}
use Rattle.jv_model.specs.declared.setting.Setting.{Setting}
use Rattle.jv_model.specs.declared.slice.BlockId.{BlockId}
use Rattle.jv_model.specs.promise.FiniteMap.{get, text_key}
use Rattle.jv_model.specs.promise.blocks.BlockNames.{IsBlock, name_in}
use Rattle.jv_model.specs.promise.tree.Tree.{Tree}
use Rattle.jv_model.proofs.FiniteMapLaws.{get-empty_map}
use Rattle.jv_model.proofs.TestLaws.{of_known}
use Rattle.jv_outside.specs.promise.Blocks.{StagedMap, staged_at}
use Rattle.jv_outside.specs.promise.Holding.{Holding}
use Rattle.jv_outside.specs.promise.Objects.{ObjectMap, bytes_at}
use Rattle.jv_volume.specs.promise.TypedRows.{typed}
use Rattle.jv_volume.specs.promise.Slices.{next_slice}
use Rattle.jv_volume_bytes.specs.promise.Blocks.{AreBelow, HasBlocks}
use Rattle.jv_yard.specs.promise.Contents.{blocks_in}
use Rattle.jv_model.specs.promise.blocks.BlockNames.{is_block}
use Rattle.jv_yard.specs.promise.Staging.{ClientStaging, Staging, staged_since}
use Rattle.jv_yard.specs.promise.Starting.{IsFound, IsStarted}
use Rattle.jv_yard.specs.promise.YardValue.{NamesBlock}
use Rattle.jv_yard.proofs.CallLaws.{KeepsStaged-started}
use Rattle.jv_yard.proofs.ContentsLaws.{is_block-passes, is_block-says}
use Rattle.jv_client_shared.specs.promise.Shared.{HasStore, InDepot, Known, Shared, staged_in}
use Rattle.jv_client_shared.specs.promise.WholeVolume.{IsCopy, WholeVolume}
use Rattle.jv_session.specs.promise.Lines.{StaysPut}
use Rattle.jv_cmd.specs.promise.Run.{Leaves}
use Rattle.std.proofs.lemmas.Option.{same_Some}

-- What a yard found on its shelf is what it has staged in the end.
Found-left : (setting : Setting) (depot : Holding ObjectMap) (shelf : Holding StagedMap) (before left : Shared)
    → IsStarted setting depot shelf before.yard → StaysPut before left → (client : ℕ) → client ≤ LAST_CLIENT
    → IsFound left.yard.setting left.yard.shelf.content client (left.yard.staged client)
Found-left setting depot shelf before left started stays client low =
    subst (λ (s : Setting). IsFound s left.yard.shelf.content client (left.yard.staged client))
    (sym (stays.setting ∙ started.setting_is))
    (subst (λ content. IsFound setting content client (left.yard.staged client))
    (sym (stays.direct ∙ ap (λ (h : Holding StagedMap). h.content) started.shelf_same))
    (subst (λ (staged : Staging). IsFound setting shelf.content client (staged client)) (sym stays.grows.staged)
    (started.staged_are client low)))

-- A session has left `v`, and the next one begins with `w`.
module _ (t : Tree) (g : Known) (v w : Shared) (store : HasStore t g v)
    (found : (client : ℕ) → client ≤ LAST_CLIENT → IsFound v.yard.setting v.yard.shelf.content client (v.yard.staged client))
    (depot : Holding ObjectMap) (shelf : Holding StagedMap) (started : IsStarted v.yard.setting depot shelf w.yard)
    (rows : w.keeper.rows ≡ v.keeper.rows) (objects : depot.content ≡ v.yard.depot.content)
    (blocks : shelf.content ≡ v.yard.shelf.content) where
  abbrev setting : Setting
  setting = v.yard.setting

  -- each copy of a block has the bytes that are known of it

  known_shelved : (client : ℕ) (b : BlockId) (bytes : List ℕ) → client ≤ LAST_CLIENT → IsBlock setting.block b
      → staged_at client (name_in setting b) store.staged ≡ Some bytes → g.blocks b ≡ Some bytes
  known_shelved client b bytes low is at =
      let name = name_in setting b in
      let named : NamesBlock setting name = record { block = b; is = record { is_block = is; spelled = refl } } in
      let since : get (v.yard.staged client) name ≡ Some 0 = of_known (λ m. (n : List ℕ) → NamesBlock setting n → IsSome (staged_at client n m) → get (v.yard.staged client) n ≡ Some 0) v.yard.shelf.content store.staged
      store.staged_are (found client low).all name named (ap is_some at) in
      let passes = is_block-passes setting.block b is in
      let there : is_some (staged_since client name v.yard.staged) ≡ true = ap is_some since in
      store.staged_copies client b bytes
      (ap (λ test. if test then staged_at client name store.staged else None) (λ i. passes i && there i) ∙ at)

  -- no other client than those of a session has staged anything
  no_others : (client : ℕ) (name : List ℕ) → LAST_CLIENT < client → staged_since client name w.yard.staged ≡ None
  no_others client name high =
      ap (λ (staging : ClientStaging). get staging name) (started.no_others client high) ∙ get-empty_map text_key name

  client_is : (client : ℕ) (name : List ℕ) → IsSome (staged_since client name w.yard.staged) → client ≤ LAST_CLIENT
  client_is client name some = by_number (cases_lt LAST_CLIENT client)
    where
      by_number : (LAST_CLIENT < client) ⊎ (client ≤ LAST_CLIENT) → client ≤ LAST_CLIENT
      by_number (inl high) = absurd (false≢true (sym (ap is_some (no_others client name high)) ∙ some))
      by_number (inr low) = low

  -- what the next yard has staged
  known_staged : (client : ℕ) (b : BlockId) (bytes : List ℕ) → staged_in w.yard store.staged client b ≡ Some bytes
      → g.blocks b ≡ Some bytes
  known_staged client b bytes there =
      by_tests (is_block setting.block b) (is_some (staged_since client (name_in setting b) w.yard.staged)) refl refl
      (subst (λ (s : Setting). (if is_block s.block b && is_some (staged_since client (name_in s b) w.yard.staged)
      then staged_at client (name_in s b) store.staged else None) ≡ Some bytes) started.setting_is there)
    where
      by_tests : (block staged : Bool) → is_block setting.block b ≡ block
          → is_some (staged_since client (name_in setting b) w.yard.staged) ≡ staged
          → (if block && staged then staged_at client (name_in setting b) store.staged else None) ≡ Some bytes
          → g.blocks b ≡ Some bytes
      by_tests true true is some e =
          known_shelved client b bytes (client_is client (name_in setting b) some) (is_block-says setting.block b is) e
      by_tests true false is some e = absurd (cc)
      by_tests false staged is some e = absurd (cc)

  known_object : (b : BlockId) (bytes : List ℕ) → blocks_in w.yard.setting store.objects b ≡ Some bytes → g.blocks b ≡ Some bytes
  known_object b bytes there =
      store.copies b bytes (subst (λ (s : Setting). blocks_in s store.objects b ≡ Some bytes) started.setting_is there)

  known_copy : (b : BlockId) (bytes : List ℕ) → IsCopy (blocks_in w.yard.setting store.objects) (staged_in w.yard store.staged) b bytes
      → g.blocks b ≡ Some bytes
  known_copy b bytes (inl object) = known_object b bytes object
  known_copy b bytes (inr staged) = known_staged staged.0 b bytes staged.1

  direct_after : HasBlocks w.yard.setting.block (typed store.rows) (blocks_in w.yard.setting store.objects)
  direct_after = subst (λ (s : Setting). HasBlocks s.block (typed store.rows) (blocks_in s store.objects))
      (sym started.setting_is) store.direct

  WholeVolume-after : WholeVolume w
  WholeVolume-after = record {
    rows = store.rows;
    rows_are = rows ∙ store.rows_are;
    whole = store.whole;
    setting = store.setting ∙ ap Some (sym started.setting_is);
    objects = store.objects;
    objects_are = ap (λ (d : Holding ObjectMap). d.content) started.depot_same ∙ objects ∙ store.objects_are;
    staged = store.staged;
    staged_are = ap (λ (h : Holding StagedMap). h.content) started.shelf_same ∙ blocks ∙ store.staged_are;
    there = λ id slice is index low. InDepot (direct_after id slice is index low);
    kept = KeepsStaged-started setting depot shelf w.yard started;
    alike = λ b first second one two. same_Some first second (sym (known_copy b first one) ∙ known_copy b second two);
    below = λ b bytes is. store.below b bytes (known_object b bytes is);
    staged_below = λ client b bytes is. store.below b bytes (known_staged client b bytes is);
  }

-- A session began with a yard that was started (`before`) and has left `left`, with its tree. The next one begins with the rows left, and
-- with a yard that is started over a depot and a shelf with what is left there.
pub WholeVolume-left : (setting : Setting) (depot depot' : Holding ObjectMap) (shelf shelf' : Holding StagedMap)
    (before left next : Shared) (t : Tree) → IsStarted setting depot shelf before.yard → StaysPut before left → Leaves left t
    → IsStarted left.yard.setting depot' shelf' next.yard → next.keeper.rows ≡ left.keeper.rows
    → depot'.content ≡ left.yard.depot.content → shelf'.content ≡ left.yard.shelf.content
    → (whole : WholeVolume next) × HasBlocks next.yard.setting.block (typed whole.rows) (blocks_in next.yard.setting whole.objects)
unfolding WholeVolume-after
WholeVolume-left setting depot depot' shelf shelf' before left next t started stays leaves again rows objects blocks =
    let found = Found-left setting depot shelf before left started stays in (
      WholeVolume-after t leaves.known left next leaves.store found depot' shelf' again rows objects blocks,
      direct_after t leaves.known left next leaves.store found depot' shelf' again rows objects blocks,
    )
