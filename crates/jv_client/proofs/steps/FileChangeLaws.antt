-- A step that is a truncate or a copy with its answer: what it makes of the client and of what clients share.
use Rattle.std.proofs.Common.{◌≡◌, ℕ, ◌+◌, IsTrue, true, List, [], ◌∷◌, map, None, Some, Ok, Err, refl, ap, subst}
use Rattle.std.proofs.Common.{◌∙◌, arith}
use Rattle.std.specs.Prelude.{Result, unwrap_or}
use Rattle.jv_model.specs.declared.act.ActKind.{ActKind}
use Rattle.jv_model.specs.declared.act.ActKind.TheVariants.{Answered, Copied, Quiet, Truncated}
use Rattle.jv_model.specs.declared.act.Told.{Told}
use Rattle.jv_model.specs.declared.act.Told.TheVariants.{Fine, Refused as ToldRefused}
use Rattle.jv_model.specs.declared.basics.Who.{Who}
use Rattle.jv_model.specs.declared.fault.Fault.{Fault}
use Rattle.jv_model.specs.declared.fault.RowFault.TheVariants.{Bad, Failed, Memory}
use Rattle.jv_model.specs.declared.fault.TxFault.{TxFault}
use Rattle.jv_model.specs.declared.fault.TxFault.TheVariants.{Refused as RefusedBy, Moved, Rows as OfRows}
use Rattle.jv_model.specs.declared.limits.TheConstants.{FILE_END}
use Rattle.jv_model.specs.declared.op.Op.TheVariants as op
use Rattle.jv_model.specs.declared.op.Reply.{Reply}
use Rattle.jv_model.specs.declared.op.Reply.TheVariants as reply
use Rattle.jv_model.specs.declared.op.Step.TheVariants.{Done}
use Rattle.jv_model.specs.declared.profile.Does.{Does}
use Rattle.jv_model.specs.declared.profile.Does.TheVariants as does
use Rattle.jv_model.specs.declared.setting.Setting.{Setting}
use Rattle.jv_model.specs.promise.tree.Tree.{Tree}
use Rattle.jv_model.specs.promise.tree.Caller.{Caller, Outcome}
use Rattle.jv_model.specs.promise.tree.FileBytes.{copy, truncate}
use Rattle.jv_model.specs.promise.client.ModelClient.{ModelClient, inode_at}
use Rattle.jv_model.specs.promise.client.Profile.{handle_of}
use Rattle.jv_model.specs.promise.journal.State.{State, after_told, caller, without_views}
use Rattle.jv_model.specs.promise.client.OpForms.{is_read}
use Rattle.jv_model.specs.client.OpForms.{is_umount}
use Rattle.jv_model.specs.tree.Trash.{due_after}
use Rattle.jv_outside.specs.promise.Store.{Store}
use Rattle.jv_rows.specs.Transactions.{IsFor}
use Rattle.jv_data.specs.Changing.{AnyBytes, Changes, IsCrowded, Never, count_in}
use Rattle.jv_volume.specs.Holding.{Stays}
use Rattle.jv_client_shared.specs.Keeping.{KeepsShared}
use Rattle.jv_client_shared.specs.promise.Shared.{HasStore, Known, Shared, depot_in}
use Rattle.jv_client_handles.specs.Handles.{inode_here, unseen}
use Rattle.jv_client_handles.proofs.HandleLaws.{handles-forgotten}
use Rattle.jv_client_handles.proofs.SeenLaws.{views-left}
use Rattle.jv_model_steps.specs.Stages.{changes_files}
use Rattle.jv_client_requests.specs.Request.{Request}
use Rattle.jv_client_requests.proofs.ChangeLaws.{change-never_bad, change-never_moved, copy-not_made, copy-not_made_calm}
use Rattle.jv_client_requests.proofs.ChangeLaws.{copy-request, truncate-not_made, truncate-not_made_calm, truncate-request}
use Rattle.jv_client.specs.declared.doing.Doing.{Doing}
use Rattle.jv_client.specs.declared.made.Made.{Made}
use Rattle.jv_client.specs.declared.made.Made.TheVariants.{Both}
use Rattle.jv_client.specs.ClientValue.{ClientValue, session_here}
use Rattle.jv_client.specs.Ending.{ended}
use Rattle.jv_client.specs.Held.{IsClient, IsHeld, Holds, in_flight}
use Rattle.jv_client.specs.UnderWay.{IsReady, asks_more, left}
use Rattle.jv_client.specs.Makes.{Makes, StepsTo}
use Rattle.jv_client.specs.Transacting.{EndsUnmade}
use Rattle.jv_client.specs.CacheUse.{OfTransaction}
use Rattle.jv_client.proofs.held.CacheUseLaws.{AsksRows, NoRead, cache-stays}
use Rattle.jv_client.proofs.steps.AnswerLaws.{request-lands}
use Rattle.jv_client.proofs.held.DirectLaws.{direct-unseen}
use Rattle.jv_client.proofs.held.HeldLaws.{client-doing, doing_of, holds-doing, holds-later}
use Rattle.jv_client.proofs.held.LastHandleLaws.{inode-same}
use Rattle.jv_client.proofs.held.OthersStepLaws.{cache-goes, ended-client, held-goes}
use Rattle.jv_client.proofs.begun.FirstRequestLaws.{IsFirst, change-first, first-stage, model-flushed}
use Rattle.jv_client.proofs.steps.TransactionLaws.{answered-makes}
use Rattle.jv_client.proofs.steps.RefusedTransactionLaws.{UnmadeLeads, unmade}

-- ---- what the model makes of it, whatever files its caller has open

truncate-held : (t : Tree) (who : Caller) (len : ℕ) (held : List ℕ)
    → truncate t (record who { held = held }) len ≡ truncate t who len
unfolding truncate
truncate-held t who len held = refl

copy-held : (t : Tree) (who : Caller) (from to len : ℕ) (held : List ℕ)
    → copy t (record who { held = held }) from to len ≡ copy t who from to len
unfolding copy
copy-held t who from to len held = refl

-- ---- a client that changed a file

-- a client without its views of a file
abbrev pub blind : ℕ → ClientValue → ClientValue
blind inode h = record h { handles = map (unseen inode) h.handles }

held-blind : (g : Known) (v : Shared) (count inode : ℕ) (m : ModelClient) (h : ClientValue) → IsHeld g v m count h
    → IsHeld g v (without_views inode m) count (blind inode h)
held-blind g v count inode m h held = record {
  session = held.session;
  removed = held.removed;
  handles = handles-forgotten g v m.views count inode m.handles h.handles held.handles;
  views = views-left inode count m.views held.views;
  pending = held.pending;
  direct = direct-unseen v.yard.setting.block (depot_in v) m.writeback h.handles held.direct inode;
}

holds-blind : (t : Tree) (inode : ℕ) (m : ModelClient) → Holds t m → Holds t (without_views inode m)
holds-blind t inode m holds = record { opened = holds.opened; pending = holds.pending }

-- ---- the step

module _ (now : ℕ) (h : ClientValue) (d : Doing) (busy : h.doing ≡ Some d) (ready : IsReady h)
    (flushed : left h ≡ None) (changes : IsTrue (changes_files d.does)) (v : Shared) (keeper : Store) where
  abbrev used : Shared
  used = record v { keeper = keeper }

  -- in whose name it runs
  abbrev pub who_is : Who
  who_is = record { sid = session_here h; held = []; now = now }

  pub first : IsFirst h d
  first = change-first h d changes busy ready flushed

  module _ (s : State) (g : Known) (has : HasStore s.tree g v) (holds : Holds s.tree (s.clients h.id))
      (is : IsClient g v (s.clients h.id) s.count h) where
    abbrev mine : ModelClient
    mine = s.clients h.id

    -- in whose name the change is made
    abbrev pub who : Caller
    who = caller mine h.id now d.op

    abbrev pub alone : Caller
    alone = record who { held = [] }

    pub alone-is : IsFor who_is alone
    alone-is = record { sid = ap (λ session. unwrap_or session 0) is.held.session; now = refl; held = refl }

    -- it leads to the client without its views of the file
    leads-changed : (kind named : ActKind) (told : Told) (answer : Reply) (inode other : ℕ) (t : Tree) (copied : ℕ)
        → kind ≡ named → inode ≡ other
        → Request s g g v used h.id now (in_flight h) (in_flight h) (kind ∷ Answered told ∷ []) (Done answer) t
        (record (without_views inode mine) { doing = None }) copied
        → StepsTo s g v h now (named ∷ Answered told ∷ []) (Done answer) (ended (blind other h)) used
    leads-changed kind named told answer inode other t copied is_named same request =
        let blinded = blind inode h in
        let model : ModelClient = record (without_views inode mine) { doing = None } in
        let goes : KeepsShared request.own g g v used = request.leads.kept in
        let stays : Stays s.tree t = subst (Stays s.tree) request.leaves.tree request.stays in
        subst (λ (kind : ActKind). StepsTo s g v h now (kind ∷ Answered told ∷ []) (Done answer) (ended (blind other h))
        used) is_named
        (subst (λ i. StepsTo s g v h now (kind ∷ Answered told ∷ []) (Done answer) (ended (blind i h)) used) same
        (record {
          learned = g;
          tree = t;
          model = model;
          copied = copied;
          request = request-lands s g g v used h.id now (in_flight h) (in_flight h) (kind ∷ Answered told ∷ [])
              (Done answer) t model copied request;
          is_client = ended-client g used (s.count + 2) (without_views inode mine) blinded
              (held-goes s.tree g v has request.own g used goes (without_views inode mine) s.count (s.count + 2)
              blinded (omega arith) (held-blind g v s.count inode mine h is.held))
              (cache-goes s.tree g v has request.own g used goes h.cache is.cache);
          holds = holds-doing t (without_views inode mine) None
              (holds-blind t inode mine (holds-later s.tree t mine stays holds));
        }))

    -- a truncate
    module _ (handle len : ℕ) (of_op : d.op ≡ op.Truncate handle len) (due : Setting → ℕ) where
      -- what was tried is what the model tries
      pub model-truncates : (made : Result (Unit {0}) TxFault)
          → ((who : Caller) → IsFor who_is who
          → who.inode ≡ inode_here h.handles handle
          → Changes {A = Unit {0}} (record { own = 0; size = 0; more = 1; due = due }) AnyBytes Never v.keeper keeper made
          (λ unit. reply.Done) (λ t. truncate t who len))
          → Changes {A = Unit {0}} (record { own = 0; size = 0; more = 1; due = due }) AnyBytes Never v.keeper keeper made
          (λ unit. reply.Done) (λ t. truncate t who len)
      model-truncates made tried =
          subst (λ (act : Tree → Result Outcome Fault). Changes {A = Unit {0}}
          (record { own = 0; size = 0; more = 1; due = due }) AnyBytes Never v.keeper keeper made (λ unit. reply.Done) act)
          (λ i t. truncate-held t who len [] i)
          (tried alone alone-is
          (inode-same g v mine s.count h is.held (handle_of d.op) ∙ ap (λ o. inode_here h.handles (handle_of o)) of_op))

      truncate-leads : Changes {A = Unit {0}} (record { own = 0; size = 0; more = 1; due = due }) AnyBytes Never v.keeper
          keeper (Ok tt) (λ unit. reply.Done) (λ t. truncate t who len)
          → StepsTo s g v h now (Truncated (inode_here h.handles handle) len ∷ Answered (Fine 0 0 0 0) ∷ [])
          (Done reply.Done) (ended (blind (inode_here h.handles handle) h)) used
      truncate-leads changes =
          let same = inode-same g v mine s.count h is.held handle in
          let request = truncate-request s h.id now (doing_of d) (client-doing g v mine s.count h d busy is)
          first.started (first-stage h d first)
          (model-flushed h d first g v mine s.count is) g v has (in_flight h) keeper due handle len of_op changes in
          leads-changed (Truncated (inode_at mine handle) len) (Truncated (inode_here h.handles handle) len)
          (Fine 0 0 0 0) reply.Done (inode_at mine handle) (inode_here h.handles handle) request.0 s.copied
          (ap (λ inode. Truncated inode len) same) same request.1

    -- a copy
    module _ (source from target to len : ℕ) (of_op : d.op ≡ op.Copy source from target to len) (due : Setting → ℕ)
      where
        pub model-copies : (made : Result ℕ TxFault)
            → ((who : Caller) → IsFor who_is who
            → who.inode ≡ inode_here h.handles source → who.other ≡ inode_here h.handles target
            → Changes {A = ℕ} (record { own = 0; size = 0; more = count_in made; due = due }) AnyBytes
            (IsCrowded FILE_END) v.keeper keeper made (λ n. reply.Count n) (λ t. copy t who from to len))
            → Changes {A = ℕ} (record { own = 0; size = 0; more = count_in made; due = due }) AnyBytes
            (IsCrowded FILE_END) v.keeper keeper made (λ n. reply.Count n) (λ t. copy t who from to len)
        model-copies made tried =
            subst (λ (act : Tree → Result Outcome Fault). Changes {A = ℕ}
            (record { own = 0; size = 0; more = count_in made; due = due }) AnyBytes (IsCrowded FILE_END) v.keeper keeper
            made (λ n. reply.Count n) act)
            (λ i t. copy-held t who from to len [] i)
            (tried alone alone-is
            (inode-same g v mine s.count h is.held (handle_of d.op) ∙ ap (λ o. inode_here h.handles (handle_of o)) of_op)
            (ap (λ o. (caller mine h.id now o).other) of_op ∙ inode-same g v mine s.count h is.held target))

        copy-leads : (count : ℕ) → Changes {A = ℕ} (record { own = 0; size = 0; more = count; due = due }) AnyBytes
            (IsCrowded FILE_END) v.keeper keeper (Ok count) (λ n. reply.Count n) (λ t. copy t who from to len)
            → StepsTo s g v h now (Copied (inode_here h.handles source) from (inode_here h.handles target) to count
            ∷ Answered (Fine count 0 0 0) ∷ []) (Done (reply.Count count))
            (ended (blind (inode_here h.handles target) h)) used
        copy-leads count changes =
            let first_same = inode-same g v mine s.count h is.held source in
            let same = inode-same g v mine s.count h is.held target in
            let request = copy-request s h.id now (doing_of d) (client-doing g v mine s.count h d busy is)
            first.started (first-stage h d first) (model-flushed h d first g v mine s.count is)
            g v has (in_flight h) keeper due source from target to len of_op count changes in
            leads-changed (Copied (inode_at mine source) from (inode_at mine target) to count)
            (Copied (inode_here h.handles source) from (inode_here h.handles target) to count)
            (Fine count 0 0 0) (reply.Count count) (inode_at mine target) (inode_here h.handles target) request.0
            (s.copied + count)
            (ap (λ inode. Copied inode from (inode_at mine target) to count) first_same
            ∙ ap (λ inode. Copied (inode_here h.handles source) from inode to count) same)
            same request.1

  -- one in whose name a change runs, and the files that it is on
  abbrev asker : ℕ → ℕ → Caller
  asker inode other = record {
    client = h.id;
    sid = session_here h;
    now = now;
    free_handle = 0;
    held = [];
    inode = inode;
    other = other;
  }

  asker-is : (inode other : ℕ) → IsFor who_is (asker inode other)
  asker-is inode other = record { sid = refl; now = refl; held = refl }

  module _ (entry : ℕ) where
    -- it was made
    pub truncated-makes : (handle len : ℕ) → d.op ≡ op.Truncate handle len
        → ((caller : Caller) → IsFor who_is caller
        → caller.inode ≡ inode_here h.handles handle
        → Changes {A = Unit {0}} (record { own = 0; size = 0; more = 1; due = due_after now }) AnyBytes Never v.keeper
        keeper (Ok tt) (λ unit. reply.Done) (λ t. truncate t caller len))
        → Makes now entry h (ended (blind (inode_here h.handles handle) h)) v used
        (Both (Truncated (inode_here h.handles handle) len) (Fine 0 0 0 0) reply.Done)
    truncated-makes handle len of_op tried =
        let inode = inode_here h.handles handle in
        let tx = tried (asker inode 0) (asker-is inode 0) refl in
        answered-makes now entry h (ended (blind inode h)) (Truncated inode len) (Fine 0 0 0 0) reply.Done v keeper
        (record { id = refl; limits = refl; idle = refl })
        (cache-stays h d busy (ended (blind inode h)) (Both (Truncated inode len) (Fine 0 0 0 0) reply.Done) v.yard v.yard
        (NoRead (ap is_read of_op) refl refl) (ap is_umount of_op) refl tt)
        ready tx.opened_at tx.counts (refl, λ device. refl)
        (λ s g number has holds is. truncate-leads s g has holds is handle len of_op (due_after now)
        (model-truncates s g has holds is handle len of_op (due_after now) (Ok tt) tried))

    pub copied-makes : (source from target to len : ℕ) → d.op ≡ op.Copy source from target to len → (count : ℕ)
        → ((caller : Caller) → IsFor who_is caller
        → caller.inode ≡ inode_here h.handles source → caller.other ≡ inode_here h.handles target
        → Changes {A = ℕ} (record { own = 0; size = 0; more = count; due = due_after now }) AnyBytes
        (IsCrowded FILE_END) v.keeper keeper (Ok count) (λ n. reply.Count n) (λ t. copy t caller from to len))
        → Makes now entry h (ended (blind (inode_here h.handles target) h)) v used
        (Both (Copied (inode_here h.handles source) from (inode_here h.handles target) to count) (Fine count 0 0 0)
        (reply.Count count))
    copied-makes source from target to len of_op count tried =
        let first_inode = inode_here h.handles source in
        let inode = inode_here h.handles target in
        let tx = tried (asker first_inode inode) (asker-is first_inode inode) refl refl in
        answered-makes now entry h (ended (blind inode h)) (Copied first_inode from inode to count) (Fine count 0 0 0)
        (reply.Count count) v keeper (record { id = refl; limits = refl; idle = refl })
        (cache-stays h d busy (ended (blind inode h))
        (Both (Copied first_inode from inode to count) (Fine count 0 0 0) (reply.Count count)) v.yard v.yard
        (NoRead (ap is_read of_op) refl refl) (ap is_umount of_op) refl tt)
        ready tx.opened_at tx.counts
        (refl, λ device. refl)
        (λ s g number has holds is. copy-leads s g has holds is source from target to len of_op (due_after now) count
        (model-copies s g has holds is source from target to len of_op (due_after now) (Ok count) tried))

  -- it wasn't

  -- what is left to show of the model where a truncate wasn't made
  truncate-unmade_leads : (handle len : ℕ) → d.op ≡ op.Truncate handle len → d.does ≡ does.Truncates
      → (s : State) (g : Known) → HasStore s.tree g v → Holds s.tree (s.clients h.id)
      → IsClient g v (s.clients h.id) s.count h → (fault : TxFault)
      → ((caller : Caller) → IsFor who_is caller → caller.inode ≡ inode_here h.handles handle
      → Changes {A = Unit {0}} (record { own = 0; size = 0; more = 1; due = due_after now }) AnyBytes Never v.keeper
      keeper (Err fault) (λ unit. reply.Done) (λ t. truncate t caller len))
      → UnmadeLeads now h d v used Quiet fault s g
  truncate-unmade_leads handle len of_op of_does s g has holds is (RefusedBy fault) tried =
      let changes = model-truncates s g has holds is handle len of_op (due_after now) (Err (RefusedBy fault)) tried in
      record {
        request = request-lands s g g v used h.id now (in_flight h) (in_flight h)
            (Quiet ∷ Answered (ToldRefused fault) ∷ []) (Done (reply.Refused fault)) s.tree
            (after_told d.op (ToldRefused fault) (s.clients h.id)) s.copied
            (truncate-not_made s h.id now (doing_of d) (client-doing g v (s.clients h.id) s.count h d busy is)
            first.started (first-stage h d first) (model-flushed h d first g v (s.clients h.id) s.count is)
            g v has (in_flight h) keeper (due_after now) handle
            len of_op of_does fault changes);
        calm = truncate-not_made_calm s h.id now (doing_of d) (client-doing g v (s.clients h.id) s.count h d busy is)
            first.started (first-stage h d first) (model-flushed h d first g v (s.clients h.id) s.count is)
            g v has (in_flight h) keeper (due_after now) handle
            len of_op fault changes;
      }
  truncate-unmade_leads handle len of_op of_does s g has holds is (Moved list) tried =
      change-never_moved (record { own = 0; size = 0; more = 1; due = due_after now }) Never s.tree g v has keeper
      (λ unit. reply.Done) (λ t. truncate t (who s g has holds is) len) list
      (model-truncates s g has holds is handle len of_op (due_after now) (Err (Moved list)) tried)
  truncate-unmade_leads handle len of_op of_does s g has holds is (OfRows (Bad at bytes)) tried =
      change-never_bad (record { own = 0; size = 0; more = 1; due = due_after now }) Never s.tree g v has keeper
      (λ unit. reply.Done) (λ t. truncate t (who s g has holds is) len) at bytes
      (model-truncates s g has holds is handle len of_op (due_after now) (Err (OfRows (Bad at bytes))) tried)
  truncate-unmade_leads handle len of_op of_does s g has holds is (OfRows Failed) tried = tt
  truncate-unmade_leads handle len of_op of_does s g has holds is (OfRows Memory) tried = tt

  -- and where a copy wasn't
  copy-unmade_leads : (source from target to len : ℕ) → d.op ≡ op.Copy source from target to len
      → d.does ≡ does.Copies → (s : State) (g : Known) → HasStore s.tree g v → Holds s.tree (s.clients h.id)
      → IsClient g v (s.clients h.id) s.count h → (fault : TxFault)
      → ((caller : Caller) → IsFor who_is caller → caller.inode ≡ inode_here h.handles source
      → caller.other ≡ inode_here h.handles target
      → Changes {A = ℕ} (record { own = 0; size = 0; more = 0; due = due_after now }) AnyBytes (IsCrowded FILE_END)
      v.keeper keeper (Err fault) (λ n. reply.Count n) (λ t. copy t caller from to len))
      → UnmadeLeads now h d v used Quiet fault s g
  copy-unmade_leads source from target to len of_op of_does s g has holds is (RefusedBy fault) tried =
      let changes = model-copies s g has holds is source from target to len of_op (due_after now)
      (Err (RefusedBy fault)) tried in
      record {
        request = request-lands s g g v used h.id now (in_flight h) (in_flight h)
            (Quiet ∷ Answered (ToldRefused fault) ∷ []) (Done (reply.Refused fault)) s.tree
            (after_told d.op (ToldRefused fault) (s.clients h.id)) s.copied
            (copy-not_made s h.id now (doing_of d) (client-doing g v (s.clients h.id) s.count h d busy is)
            first.started (first-stage h d first) (model-flushed h d first g v (s.clients h.id) s.count is)
            g v has (in_flight h) keeper (due_after now) source
            from target to len of_op of_does 0 fault changes);
        calm = copy-not_made_calm s h.id now (doing_of d) (client-doing g v (s.clients h.id) s.count h d busy is)
            first.started (first-stage h d first) (model-flushed h d first g v (s.clients h.id) s.count is)
            g v has (in_flight h) keeper (due_after now) source
            from target to len of_op 0 fault changes;
      }
  copy-unmade_leads source from target to len of_op of_does s g has holds is (Moved list) tried =
      change-never_moved (record { own = 0; size = 0; more = 0; due = due_after now }) (IsCrowded FILE_END) s.tree g v
      has keeper (λ n. reply.Count n) (λ t. copy t (who s g has holds is) from to len) list
      (model-copies s g has holds is source from target to len of_op (due_after now) (Err (Moved list)) tried)
  copy-unmade_leads source from target to len of_op of_does s g has holds is (OfRows (Bad at bytes)) tried =
      change-never_bad (record { own = 0; size = 0; more = 0; due = due_after now }) (IsCrowded FILE_END) s.tree g v
      has keeper (λ n. reply.Count n) (λ t. copy t (who s g has holds is) from to len) at bytes
      (model-copies s g has holds is source from target to len of_op (due_after now) (Err (OfRows (Bad at bytes))) tried)
  copy-unmade_leads source from target to len of_op of_does s g has holds is (OfRows Failed) tried = tt
  copy-unmade_leads source from target to len of_op of_does s g has holds is (OfRows Memory) tried = tt

  -- it has a transaction to make
  asks-more : {what : Does} → d.does ≡ what → asks_more h (record d { does = what }) ≡ true → asks_more h d ≡ true
  asks-more of_does asks = ap (λ (what : Does). asks_more h (record d { does = what })) of_does ∙ asks

  module _ (entry : ℕ) (after : ClientValue) (done : Made) where
    pub truncate-unmade : (handle len : ℕ) → d.op ≡ op.Truncate handle len → d.does ≡ does.Truncates
        → (fault : TxFault)
        → ((caller : Caller) → IsFor who_is caller → caller.inode ≡ inode_here h.handles handle
        → Changes {A = Unit {0}} (record { own = 0; size = 0; more = 1; due = due_after now }) AnyBytes Never v.keeper
        keeper (Err fault) (λ unit. reply.Done) (λ t. truncate t caller len))
        → EndsUnmade Quiet fault h after done → Makes now entry h after v used done
    truncate-unmade handle len of_op of_does fault tried ends =
        let inode = inode_here h.handles handle in
        let tx = tried (asker inode 0) (asker-is inode 0) refl in
        unmade now entry h after d v keeper busy ready
        (λ done fine. AsksRows (ap is_read of_op) fine (OfTransaction flushed (asks-more of_does refl))) Quiet fault
        done refl refl
        (record { rows_are = tx.undone; opened_at = tx.opened_at; counts = tx.counts; bad = tx.bad }) ends
        (λ s g number has holds is. truncate-unmade_leads handle len of_op of_does s g has holds is fault tried)

    pub copy-unmade : (source from target to len : ℕ) → d.op ≡ op.Copy source from target to len
        → d.does ≡ does.Copies → (fault : TxFault)
        → ((caller : Caller) → IsFor who_is caller → caller.inode ≡ inode_here h.handles source
        → caller.other ≡ inode_here h.handles target
        → Changes {A = ℕ} (record { own = 0; size = 0; more = 0; due = due_after now }) AnyBytes (IsCrowded FILE_END)
        v.keeper keeper (Err fault) (λ n. reply.Count n) (λ t. copy t caller from to len))
        → EndsUnmade Quiet fault h after done → Makes now entry h after v used done
    copy-unmade source from target to len of_op of_does fault tried ends =
        let first_inode = inode_here h.handles source in
        let inode = inode_here h.handles target in
        let tx = tried (asker first_inode inode) (asker-is first_inode inode) refl refl in
        unmade now entry h after d v keeper busy ready
        (λ done fine. AsksRows (ap is_read of_op) fine (OfTransaction flushed (asks-more of_does refl))) Quiet fault
        done refl refl
        (record { rows_are = tx.undone; opened_at = tx.opened_at; counts = tx.counts; bad = tx.bad }) ends
        (λ s g number has holds is. copy-unmade_leads source from target to len of_op of_does s g has holds is fault
        tried)
