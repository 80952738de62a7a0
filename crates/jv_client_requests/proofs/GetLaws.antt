-- Blocks that a reading asks for: it goes on with the bytes that are known of them, or a device failed.
use Rattle.std.proofs.Common.{◌≡◌, ℕ, ◌<◌, ◌≤◌, Bool, true, false, List, [], ◌∷◌, Option, None, Some, Ok, Err, refl}
use Rattle.std.proofs.Common.{sym, subst, ◌∙◌}
use Rattle.std.specs.Prelude.{length, Contains}
use Rattle.jv_model.specs.declared.limits.TheConstants.{LAST_CLIENT}
use Rattle.jv_model.specs.declared.act.ActKind.TheVariants.{Answered, Quiet}
use Rattle.jv_model.specs.declared.act.Told.{Told}
use Rattle.jv_model.specs.declared.act.Told.TheVariants.{Looks, Refused as ToldRefused}
use Rattle.jv_model.specs.declared.op.Reply.TheVariants.{Data, Refused}
use Rattle.jv_model.specs.declared.op.Step.TheVariants.{More, Done}
use Rattle.jv_model.specs.declared.profile.Does.TheVariants.{Reads}
use Rattle.jv_model.specs.declared.slice.BlockId.{BlockId}
use Rattle.jv_model.specs.declared.slice.Rec.{Rec}
use Rattle.jv_model.specs.promise.blocks.Slices.{block_at, block_count}
use Rattle.jv_model.specs.promise.tree.Tree.{Content}
use Rattle.jv_model.specs.promise.client.ModelClient.{ModelClient, OpenFile, Doing, Reading, Working}
use Rattle.jv_model.specs.promise.client.Profile.{handle_of}
use Rattle.jv_model.specs.promise.client.Submission.{is_flushed}
use Rattle.jv_model.specs.promise.journal.Reading.{asked_parts, reading}
use Rattle.jv_model.specs.promise.journal.State.{State, after_told, sees_first}
use Rattle.jv_model.specs.promise.journal.Steps.{Start, file_in_use, is_failure, must_answer}
use Rattle.jv_model.specs.promise.blocks.BlockNames.{name_in}
use Rattle.jv_yard.specs.Refusals.{yard_fault}
use Rattle.jv_yard.specs.declared.faults.YardFault.{YardFault}
use Rattle.jv_yard.specs.declared.faults.YardFault.TheVariants.{Depot, Shelf, Memory}
use Rattle.jv_yard.specs.BlockCalls.{GetsBlock}
use Rattle.jv_yard.specs.promise.YardValue.{YardValue}
use Rattle.jv_client_shared.specs.Keeping.{HoldsSame}
use Rattle.jv_client_shared.specs.Direct.{HasNamed}
use Rattle.jv_client_shared.specs.Seen.{IsView}
use Rattle.jv_client_shared.specs.promise.Shared.{HasStore, Known, Shared, depot_in}
use Rattle.jv_client_shared.proofs.SameLaws.{same-gets}
use Rattle.jv_client_shared.proofs.StoreLaws.{named_read}
use Rattle.jv_model_steps.specs.IsStep.{IsStep, at_stage}
use Rattle.jv_model_steps.proofs.ReadStepLaws.{get-begins, get-step, read-answered_begins, read-answered_get}
use Rattle.jv_model_steps.proofs.RefusalStepLaws.{goes-reading, goes-working}
use Rattle.jv_client_requests.specs.Request.{Request}
use Rattle.jv_client_requests.proofs.StillLaws.{failure-request, still-request}

-- A reading may ask for a block: before its first request where it has a view of its first window, and after a
-- request that missed none.
pub data MayGet (offset len : ℕ) (c : ModelClient) (d : Doing) (misses : ℕ) : Type 0 where
  First : (started : ℕ) → d.stage ≡ Working 0 started → is_flushed d.flush c.pending ≡ true
      → sees_first c d (asked_parts offset len) ≡ true → misses ≡ 0 → MayGet offset len c d misses
  Later : d.stage ≡ Reading misses → MayGet offset len c d misses

-- ---- faults of the yard

pub fails-yard : (fault : YardFault) → is_failure (ToldRefused (yard_fault fault)) ≡ true
fails-yard Depot = refl
fails-yard Shelf = refl
fails-yard Memory = refl

-- ---- the bytes

-- A block that a view's records name, where the depot has it, comes with the bytes that are known of it and the length of
-- its name.
pub record GotBlock (g : Known) (b : BlockId) (value : Option (List ℕ)) : Type 0 where
  pub bytes : List ℕ
  pub is : value ≡ Some bytes
  pub known : g.blocks b ≡ Some bytes
  pub long : length bytes ≡ b.size

module _ (s : State) (g : Known) (v : Shared) (has : HasStore s.tree g v) (client : ℕ) (yard : YardValue) where
  abbrev got : Shared
  got = record v { yard = yard }

  pub got-block : (window long : ℕ) (list : List Rec) (content : Content) → IsView g v window long list content
      → HasNamed v.yard.setting.block (depot_in v) list → (b : BlockId) (r : Rec) → Contains list r → 0 < r.id → b.index < block_count r.size v.yard.setting.block
      → b ≡ block_at r.id r.size v.yard.setting.block b.index → client ≤ LAST_CLIENT → (value : Option (List ℕ))
      → GetsBlock client (name_in v.yard.setting b) v.yard yard (Ok value) → GotBlock g b value
  got-block window long list content view there b r among some below is low value gets =
      let read = named_read s.tree g v has window long list content view there b r among some below is client value low
      gets.1 in
      record { bytes = read.1.bytes; is = read.0 ∙ read.1.is; known = read.1.is; long = read.1.long }

  module _ (now : ℕ) (d : Doing) (busy : (s.clients client).doing ≡ Some d) (offset len : ℕ)
      (does : d.does ≡ Reads offset len) (misses : ℕ) (may : MayGet offset len (s.clients client) d misses)
      (flying : ℕ) (name : List ℕ) where
    abbrev mine : ModelClient
    mine = s.clients client

    -- ---- a block was read

    module _ (value : Option (List ℕ)) (gets : GetsBlock client name v.yard yard (Ok value)) where
      still : HoldsSame v got
      still = same-gets v yard client name (Ok value) gets

      -- the reading goes on
      pub get-request : Request s g g v got client now flying flying (Quiet ∷ []) More s.tree
          (at_stage (Reading misses) d mine) s.copied
      get-request = still-request s g v got has still client now flying (Quiet ∷ []) More
          (at_stage (Reading misses) d mine)
          (λ start alone. steps start alone misses may)
        where
          steps : (start : Start) (alone : Bool) (misses : ℕ) → MayGet offset len mine d misses
              → IsStep start alone s client now (Quiet ∷ []) More s.tree (at_stage (Reading misses) d mine) s.copied
          steps start alone misses (First started at flushed sees none) =
              subst (λ n. IsStep start alone s client now (Quiet ∷ []) More s.tree (at_stage (Reading n) d mine)
              s.copied) (sym none) (get-begins start alone s client now d busy offset len does started at flushed sees)
          steps start alone misses (Later at) = get-step start alone s client now d busy offset len does misses at

      -- or that was all it needed, and it answers with what it read
      module _ (file : OpenFile) (opened : file_in_use mine d ≡ Some file) (first second : ℕ) (bytes : List ℕ)
          (reads : reading mine.views (handle_of d.op) file (asked_parts offset len) first second ≡ Some bytes) where
        abbrev told : Told
        told = Looks first second (length bytes)

        pub get-answered : Request s g g v got client now flying flying (Quiet ∷ Answered told ∷ [])
            (Done (Data bytes))
            s.tree (after_told d.op told mine) s.copied
        get-answered = still-request s g v got has still client now flying (Quiet ∷ Answered told ∷ [])
            (Done (Data bytes))
            (after_told d.op told mine) (λ start alone. steps start alone may)
          where
            steps : (start : Start) (alone : Bool) → MayGet offset len mine d misses
                → IsStep start alone s client now (Quiet ∷ Answered told ∷ []) (Done (Data bytes)) s.tree
                (after_told d.op told mine) s.copied
            steps start alone (First started at flushed sees none) =
                read-answered_begins start alone s client now d busy offset len does file opened first second bytes
                started at flushed sees reads
            steps start alone (Later at) =
                read-answered_get start alone s client now d busy offset len does file opened first second bytes
                misses at reads

    -- ---- a device failed, or memory ran out

    goes-get : MayGet offset len mine d misses → must_answer d ≡ false
    goes-get (First started at flushed sees none) = goes-working d 0 started at
    goes-get (Later at) = goes-reading d misses at

    pub get-failed : (fault : YardFault) → GetsBlock client name v.yard yard (Err fault)
        → Request s g g v got client now flying flying (Answered (ToldRefused (yard_fault fault)) ∷ [])
        (Done (Refused (yard_fault fault))) s.tree (record mine { doing = None }) s.copied
    get-failed fault gets =
        failure-request s g v got has (same-gets v yard client name (Err fault) gets) client now flying d busy
        (goes-get may) (yard_fault fault) (fails-yard fault)
