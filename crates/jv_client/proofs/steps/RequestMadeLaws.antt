-- A request after which the operation in progress goes on: what the client itself has to show for it, and what is left
-- to show of the model.
use Rattle.std.proofs.Common.{◌≡◌, ℕ, ◌+◌, ◌≤◌, ◌<◌, IsTrue, true, false, [], ◌∷◌, length, Option, None, Some}
use Rattle.std.proofs.Common.{refl, sym, ap, subst, ◌∙◌, arith}
use Rattle.std.specs.Prelude.{IfSome, List, is_some}
use Rattle.jv_model.specs.declared.basics.Limits.{Limits}
use Rattle.jv_model.specs.declared.act.ActKind.{ActKind}
use Rattle.jv_model.specs.declared.op.Step.TheVariants.{More}
use Rattle.jv_model.specs.promise.client.ModelClient.{file_of}
use Rattle.jv_model.specs.promise.journal.State.{State}
use Rattle.jv_model.specs.journal.Stepping.{is_answer}
use Rattle.jv_client_handles.specs.declared.handle.Handle.{Handle}
use Rattle.jv_client_shared.specs.promise.Shared.{HasStore, Known, Shared}
use Rattle.jv_client.specs.declared.doing.Doing.{Doing}
use Rattle.jv_client.specs.declared.doing.Flush.{Flush}
use Rattle.jv_client.specs.declared.doing.Flush.TheVariants as flush
use Rattle.jv_client.specs.declared.doing.Progress.{Progress}
use Rattle.jv_client.specs.declared.made.Made.TheVariants.{Request as AsksFor}
use Rattle.jv_client.specs.ClientValue.{ClientValue}
use Rattle.jv_client.specs.Held.{IsClient, Holds}
use Rattle.jv_client.specs.UnderWay.{FlushesFor, Closes, Describes, Reads, ReadsNothing, Syncs}
use Rattle.jv_client.specs.UnderWay.{Truncates as TruncatesIt, HasRoom, Alone, Beside, IsForm, Copies, Flushes, Leaves}
use Rattle.jv_client.specs.UnderWay.{Mounts, SaysStats, Transacts, Writes, IsAt, IsReady, IsUnderWay, has_more, moved_to}
use Rattle.jv_client.specs.UnderWay.{left, progress_of, steps_in, steps_left, steps_of}
use Rattle.jv_client.specs.Makes.{Makes, StepsTo, UsesDevices}
use Rattle.jv_client.specs.YardUse.{YardUse}
use Rattle.jv_client.specs.CacheUse.{is_miss}
use Rattle.jv_client.proofs.held.CacheUseLaws.{cache-stays, rests-calm}
use Rattle.jv_client.proofs.begun.FormLaws.{under_way}

-- ---- the operation in progress

pub in_progress : (o : Option Doing) (at : Progress) → progress_of o ≡ Some at
    → (d : Doing) × (o ≡ Some d) × (d.progress ≡ at)
in_progress None at e = absurd (let f : ◌≡◌ {A = Option Progress} None (Some at) = e in cc)
in_progress (Some d) at e = (d, refl, (let f : ◌≡◌ {A = Option Progress} (Some d.progress) (Some at) = e in cc))

-- ---- it stays one that is built

-- what was open is open still, on the same inodes
abbrev pub KeepsOpen : List (Option Handle) → List (Option Handle) → Type 0
KeepsOpen before after = (handle : ℕ) (file : Handle) → file_of before handle ≡ Some file
    → (later : Handle) × (file_of after handle ≡ Some later) × (later.inode ≡ file.inode)

-- A client has its session, its limits and its open files still, and no more bytes pending.
pub record Continues (h after : ClientValue) : Type 0 where
  pub session : after.session ≡ h.session
  pub limits : after.limits ≡ h.limits
  pub pending : length after.pending ≤ length h.pending
  pub handles : KeepsOpen h.handles after.handles

module _ (h after : ClientValue) (k : Continues h after) where
  room-on : (first : Flush) (len : ℕ) → HasRoom h first len → HasRoom after first len
  room-on first len (Beside is fits) =
      let few = k.pending in
      let same = ap (λ (l : Limits). l.buffer) k.limits in
      Beside is (omega (arith, fits, few, same))
  room-on first len (Alone is fits) =
      let same = ap (λ (l : Limits). l.buffer) k.limits in
      Alone is (omega (arith, fits, same))

  module _ (d : Doing) (p : Progress) where
    flushes-on : (handle : ℕ) → FlushesFor d handle → FlushesFor (moved_to p d) handle
    flushes-on handle (Closes o does) = Closes o does
    flushes-on handle (Syncs o does) = Syncs o does
    flushes-on handle (Describes o does) = Describes o does
    flushes-on handle (ReadsNothing offset len o does) = ReadsNothing offset len o does
    flushes-on handle (Reads offset len o does some few low) = Reads offset len o does some few low
    flushes-on handle (TruncatesIt len o does) = TruncatesIt len o does

    -- after a request it has the form that it had
    pub form-on : IsForm h d → IsForm after (moved_to p d)
    form-on (Mounts o does first) = Mounts o does first
    form-on (Transacts is spelled does first session) =
        Transacts is spelled does first (ap is_some k.session ∙ session)
    form-on (Leaves o does first session) = Leaves o does first (ap is_some k.session ∙ session)
    form-on (Writes handle offset bytes file o does opened short fits session) =
        let later = k.handles handle file opened in
        Writes handle offset bytes later.0 o does later.1 short (room-on d.flush (length bytes) fits)
        (ap is_some k.session ∙ session)
    form-on (Flushes handle file for first opened session) =
        let later = k.handles handle file opened in
        Flushes handle later.0 (flushes-on handle for) (first ∙ ap flush.File (sym later.2)) later.1
        (ap is_some k.session ∙ session)
    form-on (Copies source from target to len file other o does first opened there session) =
        let later = k.handles source file opened in
        let later_there = k.handles target other there in
        Copies source from target to len later.0 later_there.0 o does
        (first
        ∙ ap (λ inode. flush.Files inode other.inode) (sym later.2)
        ∙ ap (flush.Files later.0.inode) (sym later_there.2))
        later.1 later_there.1 (ap is_some k.session ∙ session)
    form-on (SaysStats o does first session) = SaysStats o does first (ap is_some k.session ∙ session)

-- ---- the step

module _ (now entry : ℕ) (h after : ClientValue) (d : Doing) (p : Progress) (kind : ActKind) (before used : Shared)
    (busy : h.doing ≡ Some d) (ready : IsReady h) where
  abbrev asked : Doing
  asked = moved_to p d

  -- The client becomes `after`, whose operation made a request of this kind and is at `p`.
  pub goes-on : is_some (left h) ≡ true → after.id ≡ h.id → after.cache ≡ h.cache → Continues h after → after.doing ≡ Some (moved_to p d)
      → IsAt after (moved_to p d) p → IsTrue (has_more after (moved_to p d) p)
      → steps_in after.pending (moved_to p d) < steps_in h.pending d
      → UsesDevices (AsksFor kind) before used → YardUse now h (AsksFor kind) before.yard used.yard
      → is_answer kind ≡ false → is_miss kind ≡ false
      → ((s : State) (g : Known) → s.count + 1 ≡ entry → HasStore s.tree g before → Holds s.tree (s.clients h.id)
      → IsClient g before (s.clients h.id) s.count h → StepsTo s g before h now (kind ∷ []) More after used)
      → Makes now entry h after before used (AsksFor kind)
  goes-on flushing same kept continues is at more fewer uses yard asks found leads = record {
    id = same;
    limits = continues.limits;
    ready = record {
      buffer = (let large = ready.buffer in
          let same = ap (λ (l : Limits). l.buffer) continues.limits in omega (arith, large, same));
      doing = subst (λ (o : Option Doing). IfSome o (IsUnderWay after)) (sym is) (record {
        form = form-on h after continues d p (under_way h d busy ready).form;
        at = at;
        asks = λ moved. more;
      });
    };
    devices = uses;
    yard = yard;
    cache = cache-stays h d busy after (AsksFor kind) before.yard used.yard
        (rests-calm before.yard.setting.block h d flushing (AsksFor kind) found refl) refl kept tt;
    alone = asks;
    falls = (
      (let now_left : steps_left after ≡ steps_in after.pending asked = ap (steps_of after.pending) is in
          let was_left : steps_left h ≡ steps_in h.pending d = ap (steps_of h.pending) busy in
          omega (arith, now_left, was_left, fewer)),
      ap is_some is,
    );
    leads = leads;
  }
