-- Where a run starts.
use Rattle.std.proofs.Common.{◌≡◌, ℕ, zero, suc, ◌<◌, List, Option, IfSome, slice_get, refl, sym, ap, subst, ◌∙◌, arith}
use Rattle.jv_model.specs.declared.op.Line.{Line}
use Rattle.jv_model.specs.declared.basics.Limits.{Limits}
use Rattle.jv_model.specs.declared.setting.Setting.{Setting}
use Rattle.jv_model.specs.promise.rows.RowKeys.{RowMap}
use Rattle.jv_model.specs.promise.journal.Past.{at_start}
use Rattle.jv_model.specs.promise.journal.State.{state_at_start}
use Rattle.jv_model.specs.promise.tree.Tree.{Tree}
use Rattle.jv_outside.specs.promise.Objects.{ObjectMap}
use Rattle.jv_volume.specs.promise.TypedRows.{typed}
use Rattle.jv_volume_bytes.specs.promise.Blocks.{HasBlocks, known_by}
use Rattle.jv_volume_bytes.specs.promise.Bytes.{tree_with}
use Rattle.jv_volume_bytes.proofs.BlockLaws.{tree-grows}
use Rattle.jv_yard.specs.promise.Contents.{blocks_in}
use Rattle.jv_client_shared.specs.promise.Shared.{HasStore, Known, Shared}
use Rattle.jv_client_shared.specs.Shared.{rows_in, typed_in}
use Rattle.jv_client_shared.specs.promise.WholeVolume.{WholeVolume}
use Rattle.jv_client_shared.proofs.WholeVolumeLaws.{whole-store}
use Rattle.jv_client_shared.proofs.RowStepLaws.{setting_stored}
use Rattle.jv_client_shared.proofs.SettingLaws.{setting_length}
use Rattle.jv_client_requests.specs.Request.{IsWithin}
use Rattle.jv_client.specs.ClientValue.{ClientValue, fresh_client}
use Rattle.jv_client.specs.Held.{in_flight}
use Rattle.jv_session.specs.Stands.{AreApart, IsClientAt, Stands, fresh_schedule}
use Rattle.jv_cmd.specs.promise.Run.{Beginning, StartsWhole, session_run, start_of}
use Rattle.jv_cmd.specs.promise.Stages.{StageValue}
use Rattle.std.proofs.lemmas.Option.{same_Some}
use Rattle.jv_session.proofs.NoteLaws.{fresh_stands}

-- The depot's blocks have the bytes that all known blocks have.
known_same : (v : Shared) (whole : WholeVolume v) (g : Known) (t : Tree) → HasStore t g v
    → HasStore (tree_with (known_by v.yard.setting.block (blocks_in v.yard.setting whole.objects)) (typed whole.rows)) g v
known_same v whole g t store =
    let rows : store.rows ≡ whole.rows = same_Some _ _ (sym store.rows_are ∙ whole.rows_are) in
    let objects : store.objects ≡ whole.objects = same_Some _ _ (sym store.objects_are ∙ whole.objects_are) in
    let long = setting_length store.rows v.yard.setting store.setting in
    let some : 0 < v.yard.setting.block = (let least = long.least in omega (arith, least)) in
    let by_depot : t ≡ tree_with (known_by v.yard.setting.block (blocks_in v.yard.setting store.objects)) (typed store.rows) =
    store.tree ∙ tree-grows (typed store.rows) store.whole.slices v.yard.setting.block (blocks_in v.yard.setting store.objects) g.blocks
    some store.direct store.copies in
    subst (λ (m : ObjectMap). HasStore (tree_with (known_by v.yard.setting.block (blocks_in v.yard.setting m)) (typed whole.rows)) g v) objects
    (subst (λ (m : RowMap). HasStore (tree_with (known_by v.yard.setting.block (blocks_in v.yard.setting store.objects)) (typed m)) g v) rows
    (subst (λ (tree : Tree). HasStore tree g v) by_depot store))

module _ (start : Beginning) (before : StageValue) (w : StartsWhole before start) where
  abbrev v : Shared
  v = before.devices

  abbrev first : Tree
  first = (start_of start).tree

  same_rows : w.volume.rows ≡ start.rows
  same_rows = same_Some _ _ (sym w.volume.rows_are ∙ w.known)

  same_objects : w.volume.objects ≡ start.objects
  same_objects = same_Some _ _ (sym w.volume.objects_are ∙ w.objects)

  all_there : HasBlocks v.yard.setting.block (typed w.volume.rows) (blocks_in v.yard.setting w.volume.objects)
  all_there =
      subst (λ (m : RowMap). HasBlocks v.yard.setting.block (typed m) (blocks_in v.yard.setting w.volume.objects)) (sym same_rows)
      (subst (λ (m : ObjectMap). HasBlocks v.yard.setting.block (typed start.rows) (blocks_in v.yard.setting m)) (sym same_objects)
      (subst (λ (s : Setting). HasBlocks s.block (typed start.rows) (blocks_in s start.objects)) w.setting w.direct))

  abbrev known_first : Known
  known_first = (whole-store v w.volume all_there).0

  HasStore-start : HasStore first known_first v
  HasStore-start =
      subst (λ (s : Setting). HasStore (tree_with (known_by s.block (blocks_in s start.objects)) (typed start.rows)) known_first v) (sym w.setting)
      (subst (λ (m : ObjectMap). HasStore (tree_with (known_by v.yard.setting.block (blocks_in v.yard.setting m)) (typed start.rows)) known_first v) same_objects
      (subst (λ (m : RowMap). HasStore (tree_with (known_by v.yard.setting.block (blocks_in v.yard.setting w.volume.objects)) (typed m)) known_first v) same_rows
      (known_same v w.volume known_first _ (whole-store v w.volume all_there).1)))

  setting_first : first.setting ≡ v.yard.setting
  setting_first =
      let store = HasStore-start in
      ap (λ (t : Tree). t.setting) store.tree
      ∙ same_Some _ _ (sym (setting_stored (known_by v.yard.setting.block known_first.blocks) (typed store.rows) store.whole) ∙ store.setting)

  rows_first : rows_in v ≡ typed start.rows
  rows_first = ap typed_in w.known

  within_first : IsWithin (start_of start) (state_at_start first) (rows_in v)
  within_first = subst (λ rows. IsWithin (start_of start) (state_at_start first) rows) (sym rows_first)
      (record { numbers = omega arith; records = omega arith })

-- no client is mounted

IsClientAt-start : (g : Known) (t : Tree) (v : Shared) (limits : Limits) (id k : ℕ)
    → IsClientAt g (state_at_start t) v k (fresh_client id limits)
IsClientAt-start g t v limits id k = record {
  is_client = fresh_stands g v 0 id limits;
  holds = record { opened = λ inode is. cc; pending = tt };
}

-- what holds of each fresh client holds of those of a fresh schedule
each_fresh : (setting : Setting) (limits : Limits) (P : ℕ → ClientValue → Type 0) → ((id k : ℕ) → P k (fresh_client id limits)) → (k : ℕ)
    → IfSome (slice_get (fresh_schedule setting limits).clients k) (P k)
each_fresh setting limits P all zero = all 0 0
each_fresh setting limits P all (suc zero) = all 1 1
each_fresh setting limits P all (suc (suc zero)) = all 2 2
each_fresh setting limits P all (suc (suc (suc zero))) = all 3 3
each_fresh setting limits P all (suc (suc (suc (suc zero)))) = all 4 4
each_fresh setting limits P all (suc (suc (suc (suc (suc zero))))) = all 5 5
each_fresh setting limits P all (suc (suc (suc (suc (suc (suc zero)))))) = all 6 6
each_fresh setting limits P all (suc (suc (suc (suc (suc (suc (suc zero))))))) = all 7 7
each_fresh setting limits P all (suc (suc (suc (suc (suc (suc (suc (suc k)))))))) = tt

-- none has a slice in flight
apart_first : (setting : Setting) (limits : Limits) → AreApart (fresh_schedule setting limits).clients
apart_first setting limits j k c other apart first second some =
    let none : in_flight c ≡ 0 = subst (λ (o : Option ClientValue). IfSome o (λ (x : ClientValue). in_flight x ≡ 0)) first
    (each_fresh setting limits (λ n x. in_flight x ≡ 0) (λ id n. refl) j) in
    absurd (omega (arith, some, none))

-- the schedule of the setting that was read stands where a run over a whole volume starts
pub Stands-start : (start : Beginning) (before : StageValue) (setting : Setting) (known : Option (ℕ → ℕ)) (lines : List Line)
    (status : ℕ) → StartsWhole before start → before.devices.yard.setting ≡ setting
    → Stands (at_start (session_run start known lines status)) (fresh_schedule setting before.limits) before.devices
Stands-start start before setting known lines status w is = record {
  in_line = record {
    complete = refl;
    at = refl;
    last = omega arith;
    ticks = refl;
    alone = λ entry. refl;
    limits = w.limits;
    setting = setting_first start before w ∙ is;
    known = known_first start before w;
    state = record {
      has_store = HasStore-start start before w;
      within = within_first start before w;
      clients_are = each_fresh setting before.limits (IsClientAt (known_first start before w) (state_at_start (start_of start).tree) before.devices)
          (IsClientAt-start (known_first start before w) (start_of start).tree before.devices before.limits);
      apart = apart_first setting before.limits;
    };
  };
  over = refl;
}
