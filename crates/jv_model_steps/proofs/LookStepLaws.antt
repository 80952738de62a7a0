-- Steps of a reading that look at a window of its file, or are refused that.
use Rattle.std.proofs.Common.{◌≡◌, ℕ, Bool, true, false, List, [], ◌∷◌, Option, None, Some, refl, sym, ap, subst, ◌∙◌}
use Rattle.std.specs.Option.{option_map}
use Rattle.std.specs.Prelude.{◌||◌, if◌then◌else◌, IsSomeAnd, MatchBool, is_some, not}
use Rattle.jv_model.specs.declared.act.ActKind.TheVariants.{Answered, Quiet, Look}
use Rattle.jv_model.specs.declared.act.Told.{Told}
use Rattle.jv_model.specs.declared.act.Told.TheVariants.{Refused as ToldRefused}
use Rattle.jv_model.specs.declared.fault.Fault.TheVariants.{Stale}
use Rattle.jv_model.specs.declared.fault.Gone.{Gone}
use Rattle.jv_model.specs.declared.fault.Gone.TheVariants.{Session, Node}
use Rattle.jv_model.specs.declared.op.Reply.{Reply}
use Rattle.jv_model.specs.declared.op.Reply.TheVariants as reply
use Rattle.jv_model.specs.declared.op.Step.TheVariants.{More, Done}
use Rattle.jv_model.specs.declared.profile.Does.TheVariants.{Reads}
use Rattle.jv_model.specs.promise.tree.Tree.{Tree, Node as TreeNode, node_at}
use Rattle.jv_model.specs.promise.client.ModelClient.{ModelClient, OpenFile, Doing, Stage, Reading, Replying, session_of}
use Rattle.jv_model.specs.promise.client.ModelClient.{inode_at, inode_in}
use Rattle.jv_model.specs.promise.client.Profile.{handle_of}
use Rattle.jv_model.specs.promise.journal.State.{State, after_told, has_session, is_compaction, look_refusal, looked}
use Rattle.jv_model.specs.promise.journal.State.{quieted, sees_first, is_of_another, with_look, sees}
use Rattle.jv_model.specs.promise.journal.Steps.{Start, IsRefusedIn, SessionGone, InodeGone, LooksAt, CompactionLooks}
use Rattle.jv_model.specs.promise.journal.Steps.{MayStep, MayAnswer, Refuses, Decided, file_in_use, is_missing}
use Rattle.jv_model.specs.promise.journal.Steps.{may_be_quiet, may_read_on, window_to_look}
use Rattle.jv_model.specs.promise.journal.Past.{reply_of}
use Rattle.jv_model.specs.promise.journal.Reading.{Asked, asked_parts, fresh_view, part_to_look}
use Rattle.jv_model_steps.specs.IsStep.{IsStep, at_stage}
use Rattle.jv_model_steps.specs.Leaves.{Leaves}
use Rattle.jv_model_steps.specs.Stages.{MayRead, Begins, GoesOn}
use Rattle.jv_model_steps.proofs.ReadyLaws.{quieted-reads, quiet-reads}
use Rattle.jv_model_steps.proofs.StepFormLaws.{requested, step-on, step-answered}
use Rattle.jv_model_steps.proofs.EntryLaws.{told-staged, leaves-look, leaves-quiet}

-- ---- a reading that may go on

module _ (c : ModelClient) (d : Doing) (misses : ℕ) where
  pub may_read-on : MayRead c d misses → may_read_on c d ≡ true
  may_read-on (Begins started at flushed first) = ap (λ stage. may_read_on c (record d { stage = stage })) at ∙ flushed
  may_read-on (GoesOn at) = ap (λ stage. may_read_on c (record d { stage = stage })) at

  pub looked-reads : MayRead c d misses → looked d.stage ≡ Reading misses
  looked-reads (Begins started at flushed first) = ap looked at ∙ ap Reading (sym first)
  looked-reads (GoesOn at) = ap looked at

  -- it looks at the same window once it made a request
  pub window-reads : MayRead c d misses → (file : OpenFile)
      → window_to_look c (record d { stage = Reading misses }) file ≡ window_to_look c d file
  window-reads (Begins started at flushed first) file = sym
      (ap (λ stage. window_to_look c (record d { stage = stage }) file) at)
  window-reads (GoesOn at) file = sym (ap (λ stage. window_to_look c (record d { stage = stage }) file) at)

-- the window that it looks at is that of the part that has to be looked at
pub window-needed : (c : ModelClient) (d : Doing) (misses offset len : ℕ) → d.does ≡ Reads offset len
    → MayRead c d misses
    → (file : OpenFile) → window_to_look c d file
    ≡ option_map (λ (asked : Asked). asked.window) (part_to_look c.views (handle_of d.op) file (asked_parts offset len))
window-needed c d misses offset len does may file =
    sym (window-reads c d misses may file)
    ∙ ap (λ does. window_to_look c (record d { stage = Reading misses; does = does }) file) does
    ∙ by_part (part_to_look c.views (handle_of d.op) file (asked_parts offset len))
  where
    by_part : (o : Option Asked) → elim o as (λ _. Option ℕ) [ None ↦ None | Some asked ↦ Some asked.window ]
        ≡ option_map (λ (asked : Asked). asked.window) o
    by_part None = refl
    by_part (Some asked) = refl

pub sees_first-is : (c : ModelClient) (d : Doing) (file : OpenFile) → file_in_use c d ≡ Some file → (asked : Asked)
    (others : List Asked)
    → sees_first c d (asked ∷ others) ≡ is_some (fresh_view c.views (handle_of d.op) file asked.window)
sees_first-is c d file opened asked others = ap (λ o. sees c (handle_of d.op) o (asked ∷ others)) opened

-- ---- why a look is refused

abbrev refused_by : Tree → ModelClient → ℕ → Bool → Option Reply
refused_by t c inode b = (if not b then Some (reply.Refused (Stale (Session (session_of c))))
    else if is_some (node_at t inode) then None
    else Some (reply.Refused (Stale (Node inode))))

pub look_refused-session : (t : Tree) (c : ModelClient) (inode : ℕ) → has_session t c ≡ false
    → look_refusal t c inode ≡ Some (reply.Refused (Stale (Session (session_of c))))
look_refused-session t c inode gone = ap (refused_by t c inode) gone

pub look_refused-node : (t : Tree) (c : ModelClient) (inode : ℕ) → has_session t c ≡ true → node_at t inode ≡ None
    → look_refusal t c inode ≡ Some (reply.Refused (Stale (Node inode)))
look_refused-node t c inode there gone =
    ap (refused_by t c inode) there
    ∙ ap (λ (o : Option TreeNode). if is_some o then None else Some (reply.Refused (Stale (Node inode)))) gone

module _ (start : Start) (alone : Bool) (s : State) (client now : ℕ) (d : Doing)
    (busy : (s.clients client).doing ≡ Some d) (offset len : ℕ) (does : d.does ≡ Reads offset len) where
  abbrev mine : ModelClient
  mine = s.clients client

  module _ (misses : ℕ) (may : MayRead mine d misses) (file : OpenFile) (opened : file_in_use mine d ≡ Some file)
      (window : ℕ) (look : window_to_look mine d file ≡ Some window) where
    pub may-look : has_session s.tree mine ≡ true → is_some (node_at s.tree file.inode) ≡ true
        → MayStep start alone s client now mine d (Look file.inode window)
    may-look session there =
        subst (λ b. MatchBool b (CompactionLooks s client now mine d file.inode window)
        (LooksAt s mine d file.inode window))
        (sym (ap is_compaction does))
        (record {
          goes_on = ap (λ b. b || is_missing d.stage) (may_read-on mine d misses may);
          file = subst (λ o. IsSomeAnd o (λ f. (file.inode ≡ f.inode) × (window_to_look mine d f ≡ Some window)))
              (sym opened) (refl, look);
          session = session;
          there = there;
        })

    pub leaves-looked : Leaves s (requested s client now d busy (Look file.inode window)) client 1 s.tree
        (at_stage (Reading misses) d (with_look s d file.inode window mine)) s.copied
    leaves-looked = leaves-look s client now d busy file.inode window (Reading misses) (ap is_compaction does)
        (looked-reads mine d misses may)

    -- it looks at the window, and goes on
    pub look-step : has_session s.tree mine ≡ true → is_some (node_at s.tree file.inode) ≡ true
        → IsStep start alone s client now (Look file.inode window ∷ []) More s.tree
        (at_stage (Reading misses) d (with_look s d file.inode window mine)) s.copied
    look-step session there =
        step-on s client now d busy start alone (Look file.inode window) refl (may-look session there) s.tree
        (at_stage (Reading misses) d (with_look s d file.inode window mine)) s.copied leaves-looked refl

    -- ---- a look that is refused

    -- what is gone is the answer
    abbrev told_gone : Gone → Told
    told_gone gone = ToldRefused (Stale gone)

    abbrev IsRefused : Gone → Type 0
    IsRefused gone = IsStep start alone s client now (Quiet ∷ Answered (told_gone gone) ∷ [])
        (Done (reply.Refused (Stale gone))) s.tree (after_told d.op (told_gone gone) mine) s.copied

    -- the operation between the request and its refusal
    abbrev reading_then : Stage → Doing
    reading_then stage = record d { stage = stage; moved = true }

    abbrev client_then : Stage → ModelClient
    client_then stage = at_stage stage d mine

    -- it asks for rows, as a look does
    abbrev asks_in : Option OpenFile → Bool
    asks_in None = false
    asks_in (Some file) = is_some (window_to_look (client_then (Reading misses)) (reading_then (Reading misses)) file)

    asks-rows : asks_in (file_in_use (client_then (Reading misses)) (reading_then (Reading misses))) ≡ true
    asks-rows = ap asks_in opened ∙ ap is_some (window-reads mine d misses may file ∙ look)

    module _ (gone : Gone) where
      abbrev IsQuietTo : Stage → Type 0
      IsQuietTo stage = (quieted s client mine now d d.stage ≡ stage)
          × (may_be_quiet start s client now mine d d.stage ≡ true)

      refused-after : (stage : Stage) → IsQuietTo stage → is_of_another stage (told_gone gone) ≡ false
          → reply_of (client_then stage) (reading_then stage) (told_gone gone) ≡ reply.Refused (Stale gone)
          → MayAnswer start alone (requested s client now d busy Quiet) client now (client_then stage)
          (reading_then stage) (told_gone gone)
          → IsRefused gone
      refused-after stage quiet own says answers =
          subst (λ c. IsStep start alone s client now (Quiet ∷ Answered (told_gone gone) ∷ [])
          (Done (reply.Refused (Stale gone))) s.tree c s.copied)
          (told-staged d.op (told_gone gone) mine (Some (reading_then stage)))
          (step-answered s client now d busy start alone Quiet refl quiet.1 s.tree (client_then stage) s.copied
          (leaves-quiet s client now d busy stage quiet.0) (reading_then stage) (told_gone gone)
          (reply.Refused (Stale gone)) refl own refl says answers)

      module _ (refusal : look_refusal s.tree mine file.inode ≡ Some (reply.Refused (Stale gone)))
          (refused : IsRefusedIn start (requested s client now d busy Quiet) client now
          (client_then (Reading misses)) (reading_then (Reading misses)) (Stale gone)) where
        -- where the reading has a view of its first window
        refused-sees : IsQuietTo (Reading misses) → IsRefused gone
        refused-sees quiet = refused-after (Reading misses) quiet refl refl (Refuses (Stale gone) refl refused refl)

        -- where it has none
        refused-settles : IsQuietTo (Replying (reply.Refused (Stale gone))) → IsRefused gone
        refused-settles quiet = refused-after (Replying (reply.Refused (Stale gone))) quiet refl refl
            (Decided (reply.Refused (Stale gone)) refl refl)

        own-refusal : look_refusal s.tree mine (inode_at mine (handle_of d.op)) ≡ Some (reply.Refused (Stale gone))
        own-refusal = ap (look_refusal s.tree mine) (ap inode_in opened) ∙ refusal

        look-refused : (sees : Bool) → sees_first mine d (asked_parts offset len) ≡ sees → MayRead mine d misses
            → IsRefused gone
        look-refused sees e (GoesOn at) =
            refused-sees (ap (quieted s client mine now d) at, ap (may_be_quiet start s client now mine d) at)
        look-refused true e (Begins started at flushed first) =
            refused-sees (
              quieted-reads s client now mine d started at flushed offset len does true e ∙ ap Reading (sym first),
              quiet-reads s client now mine d started at flushed start offset len does true e,
            )
        look-refused false e (Begins started at flushed first) =
            refused-settles (
              quieted-reads s client now mine d started at flushed offset len does false e ∙ ap settles own-refusal,
              quiet-reads s client now mine d started at flushed start offset len does false e ∙ ap is_some own-refusal,
            )
          where
            settles : Option Reply → Stage
            settles o = elim o as (λ _. Stage) [ None ↦ d.stage | Some answer ↦ Replying answer ]

    -- the session is gone
    pub look-refused_session : has_session s.tree mine ≡ false → IsRefused (Session (session_of mine))
    look-refused_session gone =
        look-refused (Session (session_of mine)) (look_refused-session s.tree mine file.inode gone)
        (SessionGone asks-rows gone refl) (sees_first mine d (asked_parts offset len)) refl may

    -- the file is gone
    pub look-refused_node : has_session s.tree mine ≡ true → node_at s.tree file.inode ≡ None
        → IsRefused (Node file.inode)
    look-refused_node session gone =
        look-refused (Node file.inode) (look_refused-node s.tree mine file.inode session gone)
        (InodeGone file.inode asks-rows session (ap (option_map (λ (file : OpenFile). file.inode)) opened) gone refl)
        (sees_first mine d (asked_parts offset len)) refl may
