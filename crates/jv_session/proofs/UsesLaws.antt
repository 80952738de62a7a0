-- What a line uses: how often it asks the clock, and how often its entries say that a device failed.
use Rattle.std.proofs.Common.{◌≡◌, ℕ, zero, suc, ◌+◌, ◌≤◌, cond, Bool, true, false, List, [], ◌∷◌, ◌++◌, Option, refl, sym, ap, subst, ◌∙◌, arith, add-zero, add-suc, zero-add}
use Rattle.std.specs.Prelude.{IfSome}
use Rattle.std.proofs.lemmas.List.{append-nil, append_assoc}
use Rattle.std.proofs.lemmas.List.Sums.{sum_by-append}
use Rattle.jv_model.specs.declared.act.Act.{Act}
use Rattle.jv_model.specs.declared.act.ActKind.{ActKind}
use Rattle.jv_model.specs.declared.act.ActKind.TheVariants.{Answered}
use Rattle.jv_model.specs.declared.act.Told.{Told}
use Rattle.jv_model.specs.declared.fault.Device.{Device}
use Rattle.jv_model.specs.declared.fault.Device.TheVariants.{Keeper, Depot, Shelf, Carrier}
use Rattle.jv_model.specs.declared.op.Step.TheVariants.{Broken}
use Rattle.jv_model.specs.declared.row.RowKey.{RowKey}
use Rattle.jv_model.specs.declared.setting.Setting.{Setting}
use Rattle.jv_model.specs.journal.Stepping.{entry_of, is_answer}
use Rattle.jv_outside.specs.promise.Causes.{RoseIf, RoseTimes}
use Rattle.jv_outside.specs.promise.Ticks.{Passes}
use Rattle.jv_outside.proofs.TicksLaws.{Passes-zero, Passes-trans}
use Rattle.jv_rows.specs.promise.Transactions.{IsBad}
use Rattle.jv_volume.specs.promise.TypedRows.{typed}
use Rattle.jv_client_shared.specs.Lengths.{IsLength}
use Rattle.jv_client_shared.specs.promise.Shared.{Shared}
use Rattle.jv_client.specs.ClientValue.{ClientValue}
use Rattle.jv_client.specs.YardUse.{YardUse}
use Rattle.jv_client.specs.declared.made.Made.{Made}
use Rattle.jv_client.specs.declared.made.Made.TheVariants as made
use Rattle.jv_client.specs.promise.Failures.{is_failure_of}
use Rattle.jv_client.specs.Failures.{says_failure}
use Rattle.jv_client.specs.Makes.{FailsAlone, SaysBad, UsesDevices, entries_of, faults_of, kinds_of, step_of}
use Rattle.jv_client.specs.promise.Makes.{is_failure_entry}
use Rattle.jv_session.specs.Stands.{ScheduleValue, IsYardOf}
use Rattle.jv_session.specs.promise.Direct.{BlocksStay}
use Rattle.jv_session.specs.Lines.{AnswersSo, LineState, LineUses}
use Rattle.jv_session.specs.promise.Lines.{StaysPut, AreFailures, device_failures}
use Rattle.jv_session.specs.promise.Growing.{YardGrows}
use Rattle.jv_session.specs.InLine.{at_moment}
use Rattle.jv_session.proofs.GrowingLaws.{grows_none, grows_step, grows_then}

-- how often a count rose

abbrev pub times : Bool → ℕ
times b = cond b 1 0

rose_times-if : (b : Bool) (before now : ℕ) → RoseIf b before now → RoseTimes (times b) before now
rose_times-if true before now h = (before, refl, h)
rose_times-if false before now h = h

pub rose_times-then : (m n : ℕ) (first second third : ℕ) → RoseTimes m first second → RoseTimes n second third
    → RoseTimes (m + n) first third
rose_times-then m zero first second third p q =
    subst (λ k. RoseTimes k first third) (sym (add-zero m)) (subst (RoseTimes m first) (sym q) p)
rose_times-then m (suc n) first second third p q =
    subst (λ k. RoseTimes k first third) (sym (add-suc m n)) (q.0, rose_times-then m n first second q.0 p q.1, q.2)

-- failures by device

abbrev pub no_failures : Device → ℕ
no_failures device = 0

abbrev pub both_failures : (Device → ℕ) → (Device → ℕ) → Device → ℕ
both_failures first second device = first device + second device

-- those of one step
abbrev pub made_failures : Made → Device → ℕ
made_failures made device = times (says_failure device made)

-- what entries say of devices

pub failures_then : (device : Device) (xs ys : List Act)
    → device_failures device (xs ++ ys) ≡ device_failures device xs + device_failures device ys
failures_then device xs ys = sum_by-append (λ (act : Act). cond (is_failure_entry device act.kind) 1 0) xs ys

pub failures_both : (xs ys : List Act) (f g : Device → ℕ) → AreFailures xs f → AreFailures ys g
    → AreFailures (xs ++ ys) (both_failures f g)
failures_both xs ys f g h k device =
    failures_then device xs ys ∙ ap (λ n. n + device_failures device ys) (h device) ∙ ap (λ n. f device + n) (k device)

failures_one : (line now client : ℕ) (kind : ActKind) (device : Device) (b : Bool)
    → is_failure_entry device kind ≡ b → device_failures device (entry_of line now client kind ∷ []) ≡ times b
failures_one line now client kind device b is = zero-add (times (is_failure_entry device kind)) ∙ ap times is

-- an entry that is no answer of a failure
pub failures_none : (line now client : ℕ) (kind : ActKind) → ((device : Device) → is_failure_entry device kind ≡ false)
    → AreFailures (entry_of line now client kind ∷ []) no_failures
failures_none line now client kind other device = failures_one line now client kind device false (other device)

no_failure : (kind : ActKind) (device : Device) → is_answer kind ≡ false → is_failure_entry device kind ≡ false
no_failure (Answered told) device e = absurd (cc e)
no_failure _ device e = refl

failures_two : (line now client : ℕ) (kind : ActKind) (told : Told) (device : Device)
    → is_failure_entry device kind ≡ false → is_failure_of device told ≡ false
    → device_failures device (entry_of line now client kind ∷ entry_of line now client (Answered told) ∷ []) ≡ 0
failures_two line now client kind told device first second =
    ap (λ b. 0 + times b + times (is_failure_of device told)) first ∙ ap (λ b. 0 + 0 + times b) second

-- the entries of a step say that a device failed where it did
failures_made : (line now client : ℕ) (made : Made) → FailsAlone made
    → AreFailures (entries_of line now client (kinds_of made)) (made_failures made)
failures_made line now client (made.Request kind) asks device =
    failures_one line now client kind device false (no_failure kind device asks)
failures_made line now client (made.Answer told reply) alone device =
    failures_one line now client (Answered told) device (is_failure_of device told) refl
failures_made line now client (made.Both kind told reply) alone device =
    failures_two line now client kind told device (no_failure kind device alone.0) (alone.1 device)
failures_made line now client (made.Broken key bytes) alone device = refl

-- entries that were appended

pub answers_none : (journal : List Act) → AnswersSo journal journal no_failures
answers_none journal = record { acts = []; grows = sym (append-nil journal); failures = λ device. refl }

answers_then : (first second third : List Act) (f g : Device → ℕ) → AnswersSo first second f → AnswersSo second third g
    → AnswersSo first third (both_failures f g)
answers_then first second third f g a b = record {
  acts = a.acts ++ b.acts;
  grows = b.grows ∙ ap (λ journal. journal ++ b.acts) a.grows ∙ append_assoc first a.acts b.acts;
  failures = failures_both a.acts b.acts f g a.failures b.failures;
}

-- nothing was appended since
answers_still : (first second third : List Act) (f : Device → ℕ) → AnswersSo first second f → third ≡ second
    → AnswersSo first third f
answers_still first second third f a same = record { acts = a.acts; grows = same ∙ a.grows; failures = a.failures }

-- blocks stay where devices are the same
pub blocks_stay : (before after : Shared) → after ≡ before → BlocksStay before after
blocks_stay before after same = subst (BlocksStay before) (sym same) (λ b bytes is. is)

-- what a line uses

pub stays_none : (v : Shared) → StaysPut v v
stays_none v = record {
  keeper_at = refl;
  carrier_at = refl;
  depot_at = refl;
  shelf_at = refl;
  direct = refl;
  setting = refl;
  grows = grows_none v.yard;
}

pub stays_then : (first second third : Shared) → StaysPut first second → StaysPut second third → StaysPut first third
stays_then first second third a b = record {
  keeper_at = b.keeper_at ∙ a.keeper_at;
  carrier_at = b.carrier_at ∙ a.carrier_at;
  depot_at = b.depot_at ∙ a.depot_at;
  shelf_at = b.shelf_at ∙ a.shelf_at;
  direct = b.direct ∙ a.direct;
  setting = b.setting ∙ a.setting;
  grows = grows_then first.yard second.yard third.yard a.setting a.grows b.grows;
}

pub uses_none : (s : LineState) → LineUses s s 0 no_failures
uses_none s = record {
  passes = Passes-zero s.clock.answers;
  stays = stays_none s.devices;
  counts = λ device. refl;
  answers = answers_none s.journal;
  yard = λ h. h;
  limits = refl;
}

pub uses_then : (start now later : LineState) (m n : ℕ) (f g : Device → ℕ) → LineUses start now m f
    → LineUses now later n g → LineUses start later (m + n) (both_failures f g)
uses_then start now later m n f g a b = record {
  passes = Passes-trans start.clock.answers now.clock.answers later.clock.answers m n a.passes b.passes;
  stays = stays_then start.devices now.devices later.devices a.stays b.stays;
  counts = λ device. rose_times-then (f device) (g device) (faults_of device start.devices)
      (faults_of device now.devices) (faults_of device later.devices) (a.counts device) (b.counts device);
  answers = answers_then start.journal now.journal later.journal f g a.answers b.answers;
  yard = λ h. b.yard (a.yard h);
  limits = b.limits ∙ a.limits;
}

-- the clock was asked `asks` times, and no device is used, nor is one said to have failed
pub uses_clock : (before after : LineState) (asks : ℕ) → Passes before.clock.answers after.clock.answers asks
    → after.devices ≡ before.devices → AnswersSo before.journal after.journal no_failures → before.schedule.at ≤ after.schedule.at
    → after.schedule.limits ≡ before.schedule.limits → LineUses before after asks no_failures
uses_clock before after asks passes same answers later limits = record {
  passes = passes;
  stays = subst (StaysPut before.devices) (sym same) (stays_none before.devices);
  counts = λ device. ap (faults_of device) same;
  answers = answers;
  yard = λ h. subst (λ (v : Shared). IsYardOf after.schedule v.yard) (sym same)
      (record { block = h.block; last = (let last = h.last in omega (arith, last, later)) });
  limits = limits;
}

-- nor was the clock
pub uses_nothing : (before after : LineState) → after.clock.answers ≡ before.clock.answers
    → after.devices ≡ before.devices → after.journal ≡ before.journal → after.schedule ≡ before.schedule → LineUses before after 0 no_failures
uses_nothing before after answers same journal schedule =
    uses_clock before after 0 (subst (λ (a : Option (ℕ → ℕ)). Passes before.clock.answers a 0) (sym answers)
    (Passes-zero before.clock.answers)) same
    (answers_still before.journal before.journal after.journal no_failures (answers_none before.journal) journal)
    (let at : after.schedule.at ≡ before.schedule.at = ap (λ (s : ScheduleValue). s.at) schedule in omega (arith, at))
    (ap (λ (s : ScheduleValue). s.limits) schedule)

-- nothing more was used
pub uses_still : (start now later : LineState) (m : ℕ) (f : Device → ℕ) → LineUses start now m f
    → LineUses now later 0 no_failures → later.journal ≡ now.journal → LineUses start later m f
uses_still start now later m f a b same = record {
  passes = subst (Passes start.clock.answers later.clock.answers) (add-zero m)
      (Passes-trans start.clock.answers now.clock.answers later.clock.answers m 0 a.passes b.passes);
  stays = stays_then start.devices now.devices later.devices a.stays b.stays;
  counts = λ device. subst (RoseTimes (f device) (faults_of device start.devices)) (sym (b.counts device))
      (a.counts device);
  answers = answers_still start.journal now.journal later.journal f a.answers same;
  yard = λ h. b.yard (a.yard h);
  limits = b.limits ∙ a.limits;
}

-- a device's count is the same once the yard knows of another moment
faults_at : (now : ℕ) (v : Shared) (device : Device) → faults_of device (at_moment now v) ≡ faults_of device v
faults_at now v Keeper = refl
faults_at now v Depot = refl
faults_at now v Shelf = refl
faults_at now v Carrier = refl

-- a step
pub uses_step : (before after : LineState) (line now : ℕ) (h : ClientValue) (made : Made)
    → after.journal ≡ before.journal ++ entries_of line now h.id (kinds_of made) → FailsAlone made
    → Passes before.clock.answers after.clock.answers 1
    → UsesDevices made (at_moment now before.devices) after.devices
    → YardUse now h made (at_moment now before.devices).yard after.devices.yard → after.schedule.at ≡ now
    → after.schedule.limits ≡ before.schedule.limits → LineUses before after 1 (made_failures made)
uses_step before after line now h made appends alone passes uses used at limits = record {
  passes = passes;
  stays = record {
    keeper_at = uses.keeper_at;
    carrier_at = uses.carrier_at;
    depot_at = uses.depot_at;
    shelf_at = uses.shelf_at;
    direct = uses.direct;
    setting = uses.setting;
    grows = record { staged = grown.staged; puts = grown.puts; blocks = grown.blocks; objects = grown.objects };
  };
  counts = λ device. rose_times-if (says_failure device made) (faults_of device before.devices)
      (faults_of device after.devices)
      (subst (λ n. RoseIf (says_failure device made) n (faults_of device after.devices))
      (faults_at now before.devices device) (uses.counts device));
  answers = record {
    acts = entries_of line now h.id (kinds_of made);
    grows = appends;
    failures = failures_made line now h.id made alone;
  };
  yard = λ fits. record {
    block = subst (λ (s : Setting). IsLength s.block) (sym uses.setting) fits.block;
    last = (let last = uses.last in omega (arith, last, at));
  };
  limits = limits;
}
  where
    -- the moment that the yard got first is no matter
    grown : YardGrows (at_moment now before.devices).yard after.devices.yard
    grown = grows_step now h made (at_moment now before.devices).yard after.devices.yard used

-- a step that stopped at a row: it is Bad
pub stopped_bad : (made : Made) (before after : Shared) (key : RowKey) (bytes : List ℕ)
    → step_of made ≡ Broken key bytes → UsesDevices made before after
    → IfSome after.keeper.rows (λ known. IsBad (typed known) key bytes)
stopped_bad (made.Request kind) before after key bytes is h = absurd (cc is)
stopped_bad (made.Answer told reply) before after key bytes is h = absurd (cc is)
stopped_bad (made.Both kind told reply) before after key bytes is h = absurd (cc is)
stopped_bad (made.Broken at found) before after key bytes is h =
    subst (λ rows. IfSome rows (λ known. IsBad (typed known) key bytes)) (sym (h.rows refl))
    (subst (SaysBad before) is h.bad)
