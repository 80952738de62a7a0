-- Steps of a reading that ask for a block, or that answer with what was read.
use Rattle.std.proofs.Common.{◌≡◌, ℕ, Bool, true, false, List, [], ◌∷◌, length, Option, None, Some, refl, ap, subst}
use Rattle.std.proofs.Common.{◌∙◌}
use Rattle.std.specs.Prelude.{◌||◌, not, is_some, unwrap_or}
use Rattle.jv_model.specs.declared.act.ActKind.{ActKind}
use Rattle.jv_model.specs.declared.act.ActKind.TheVariants.{Answered, Quiet, Look}
use Rattle.jv_model.specs.declared.act.Told.{Told}
use Rattle.jv_model.specs.declared.act.Told.TheVariants.{Looks}
use Rattle.jv_model.specs.declared.op.Op.{Op}
use Rattle.jv_model.specs.declared.op.Op.TheVariants as op
use Rattle.jv_model.specs.declared.op.Reply.TheVariants.{Data}
use Rattle.jv_model.specs.declared.op.Step.TheVariants.{More, Done}
use Rattle.jv_model.specs.declared.profile.Does.TheVariants.{Reads}
use Rattle.jv_model.specs.promise.tree.Tree.{node_at}
use Rattle.jv_model.specs.promise.client.ModelClient.{ModelClient, OpenFile, Doing, Working, Reading}
use Rattle.jv_model.specs.promise.client.Profile.{handle_of}
use Rattle.jv_model.specs.promise.client.Submission.{is_flushed}
use Rattle.jv_model.specs.promise.journal.State.{State, after_told, has_session, is_of_another, quieted}
use Rattle.jv_model.specs.promise.journal.State.{sees_first, with_look}
use Rattle.jv_model.specs.promise.journal.Steps.{Start, MayStep, ReadsFresh, ReadsViews, asked_of, file_in_use}
use Rattle.jv_model.specs.promise.journal.Steps.{may_be_quiet, may_read_on, window_to_look}
use Rattle.jv_model.specs.promise.journal.Past.{read_in, reply_of}
use Rattle.jv_model.specs.promise.journal.Reading.{asked_parts, reading}
use Rattle.jv_model.specs.journal.Stepping.{is_answer}
use Rattle.jv_model_steps.specs.Leaves.{Leaves}
use Rattle.jv_model_steps.specs.IsStep.{IsStep, at_stage}
use Rattle.jv_model_steps.specs.Stages.{MayRead, Begins}
use Rattle.jv_model_steps.proofs.ReadyLaws.{quieted-reads, quiet-reads}
use Rattle.jv_model_steps.proofs.StepFormLaws.{requested, step-alone, step-on, step-answered}
use Rattle.jv_model_steps.proofs.EntryLaws.{told-staged, leaves-quiet}
use Rattle.jv_model_steps.proofs.LookStepLaws.{leaves-looked, may-look, may_read-on}

-- ---- the answer of a reading

-- the bytes that it returns
module _ (c : ModelClient) (d : Doing) (file : OpenFile) (opened : file_in_use c d ≡ Some file) (first second : ℕ)
    (bytes : List ℕ)
    (reads : reading c.views (handle_of d.op) file (asked_of d.does) first second ≡ Some bytes) where
  abbrev bytes_of : Option OpenFile → List ℕ
  bytes_of None = []
  bytes_of (Some file) = unwrap_or (reading c.views (handle_of d.op) file (asked_of d.does) first second) []

  pub read-is : read_in c d first second ≡ bytes
  read-is = ap bytes_of opened ∙ ap (λ (found : Option (List ℕ)). unwrap_or found []) reads

  reads-fresh : may_read_on c d ≡ true → ReadsFresh c d (Looks first second (length bytes))
  reads-fresh goes = record {
    goes_on = goes;
    file = file;
    opened = opened;
    first = first;
    second = second;
    bytes = bytes;
    reads = reads;
    same = refl;
  }

-- the answer of a read leaves all that the client had
pub told-read : (o : Op) (handle offset len first second count : ℕ) (c : ModelClient) → o ≡ op.Read handle offset len
    → after_told o (Looks first second count) c ≡ record c { doing = None }
told-read o handle offset len first second count c e = ap (λ o. after_told o (Looks first second count) c) e

module _ (start : Start) (alone : Bool) (s : State) (client now : ℕ) (d : Doing)
    (busy : (s.clients client).doing ≡ Some d)
    (offset len : ℕ) (does : d.does ≡ Reads offset len) where
  abbrev mine : ModelClient
  mine = s.clients client

  abbrev IsGet : ℕ → Type 0
  IsGet misses = IsStep start alone s client now (Quiet ∷ []) More s.tree (at_stage (Reading misses) d mine) s.copied

  -- ---- a request for a block

  -- before its first request, where it has a view of its first window
  module _ (started : ℕ) (at : d.stage ≡ Working 0 started) (flushed : is_flushed d.flush mine.pending ≡ true)
      (sees : sees_first mine d (asked_parts offset len) ≡ true) where
    first-quieted : quieted s client mine now d d.stage ≡ Reading 0
    first-quieted = quieted-reads s client now mine d started at flushed offset len does true sees

    first-quiet : may_be_quiet start s client now mine d d.stage ≡ true
    first-quiet = quiet-reads s client now mine d started at flushed start offset len does true sees

    pub get-begins : IsGet 0
    get-begins = step-on s client now d busy start alone Quiet refl first-quiet s.tree (at_stage (Reading 0) d mine)
        s.copied
        (leaves-quiet s client now d busy (Reading 0) first-quieted) refl

  -- and later on
  module _ (misses : ℕ) (at : d.stage ≡ Reading misses) where
    next-quieted : quieted s client mine now d d.stage ≡ Reading misses
    next-quieted = ap (quieted s client mine now d) at

    next-quiet : may_be_quiet start s client now mine d d.stage ≡ true
    next-quiet = ap (may_be_quiet start s client now mine d) at

    pub get-step : IsGet misses
    get-step = step-on s client now d busy start alone Quiet refl next-quiet s.tree
        (at_stage (Reading misses) d mine) s.copied
        (leaves-quiet s client now d busy (Reading misses) next-quieted) refl

  -- ---- what was read

  module _ (file : OpenFile) (opened : file_in_use mine d ≡ Some file) (first second : ℕ) (bytes : List ℕ) where
    abbrev told : Told
    told = Looks first second (length bytes)

    abbrev Reads_by : ModelClient → Type 0
    Reads_by c = reading c.views (handle_of d.op) file (asked_parts offset len) first second ≡ Some bytes

    reads-asked : (c : ModelClient) → Reads_by c
        → reading c.views (handle_of d.op) file (asked_of d.does) first second ≡ Some bytes
    reads-asked c reads = ap (λ does. reading c.views (handle_of d.op) file (asked_of does) first second) does ∙ reads

    -- it is answered after these entries, with the client as it was but for its views
    abbrev IsRead : List ActKind → ModelClient → Type 0
    IsRead kinds c = IsStep start alone s client now kinds (Done (Data bytes)) s.tree (after_told d.op told c) s.copied

    -- without a request
    pub read-answered_alone : (started : ℕ) → d.stage ≡ Working 0 started → is_flushed d.flush mine.pending ≡ true
        → d.moved ≡ false
        → Reads_by mine
        → IsRead (Answered told ∷ []) mine
    read-answered_alone started at flushed still shows =
        let reads = reads-asked mine shows in
        step-alone s client now d busy start alone told (Data bytes) (ap (λ stage. is_of_another stage told) at)
        (ap (λ b. not b || false) still)
        (ap (λ stage. reply_of mine (record d { stage = stage }) told) at
        ∙ ap Data (read-is mine d file opened first second bytes reads))
        (ReadsViews (reads-fresh mine d file opened first second bytes reads
        (may_read-on mine d 0 (Begins started at flushed refl))))

    -- after a request that left these views
    read-after : (kind : ActKind) (c : ModelClient) (misses : ℕ) → is_answer kind ≡ false
        → MayStep start alone s client now mine d kind
        → file_in_use c d ≡ Some file
        → Leaves s (requested s client now d busy kind) client 1 s.tree (at_stage (Reading misses) d c) s.copied
        → Reads_by c
        → IsRead (kind ∷ Answered told ∷ []) c
    read-after kind c misses asks may opened leaves shows =
        let reads = reads-asked c shows in
        let reading_then : Doing = record d { stage = Reading misses; moved = true } in
        let then_c = at_stage (Reading misses) d c in
        subst (λ c. IsStep start alone s client now (kind ∷ Answered told ∷ []) (Done (Data bytes)) s.tree c s.copied)
        (told-staged d.op told c (Some reading_then))
        (step-answered s client now d busy start alone kind asks may s.tree then_c s.copied leaves reading_then told
        (Data bytes)
        refl refl refl (ap Data (read-is then_c reading_then file opened first second bytes reads))
        (ReadsViews (reads-fresh then_c reading_then file opened first second bytes reads refl)))

    -- after a look
    module _ (misses : ℕ) (may : MayRead mine d misses) (window : ℕ)
        (look : window_to_look mine d file ≡ Some window) where
      abbrev seeing : ModelClient
      seeing = with_look s d file.inode window mine

      pub read-answered_look : has_session s.tree mine ≡ true → is_some (node_at s.tree file.inode) ≡ true
          → Reads_by seeing → IsRead (Look file.inode window ∷ Answered told ∷ []) seeing
      read-answered_look session there reads =
          read-after (Look file.inode window) seeing misses refl
          (may-look start alone s client now d busy offset len does misses may file opened window look session
          there) opened
          (leaves-looked start alone s client now d busy offset len does misses may file opened window look) reads

    -- after its first request, which was for a block
    pub read-answered_begins : (started : ℕ) → d.stage ≡ Working 0 started → is_flushed d.flush mine.pending ≡ true
        → sees_first mine d (asked_parts offset len) ≡ true → Reads_by mine
        → IsRead (Quiet ∷ Answered told ∷ []) mine
    read-answered_begins started at flushed sees reads =
        read-after Quiet mine 0 refl (first-quiet started at flushed sees) opened
        (leaves-quiet s client now d busy (Reading 0) (first-quieted started at flushed sees)) reads

    -- after a later one
    pub read-answered_get : (misses : ℕ) → d.stage ≡ Reading misses → Reads_by mine
        → IsRead (Quiet ∷ Answered told ∷ []) mine
    read-answered_get misses at reads =
        read-after Quiet mine misses refl (next-quiet misses at) opened
        (leaves-quiet s client now d busy (Reading misses) (next-quieted misses at)) reads
