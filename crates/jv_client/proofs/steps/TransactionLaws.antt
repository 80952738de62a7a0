-- A step that is one metadata transaction with its answer: what it makes of the client and of what clients share.
use Rattle.std.proofs.Common.{◌≡◌, ℕ, ◌+◌, Bool, true, false, ◌&&◌, not, IsTrue, List, [], ◌∷◌, ◌++◌, None, Some}
use Rattle.std.proofs.Common.{Ok, Err, refl, sym, ap, subst, ◌∙◌, arith}
use Rattle.std.specs.Prelude.{MatchBool, unwrap_or}
use Rattle.jv_model.specs.declared.act.ActKind.{ActKind}
use Rattle.jv_model.specs.declared.act.ActKind.TheVariants.{Answered, Meta}
use Rattle.jv_model.specs.declared.act.Told.{Told}
use Rattle.jv_model.specs.declared.act.Told.TheVariants.{Fine, Looks, Refused as ToldRefused}
use Rattle.jv_model.specs.declared.fault.RowFault.TheVariants.{Bad, Failed, Memory}
use Rattle.jv_model.specs.declared.fault.TxFault.{TxFault}
use Rattle.jv_model.specs.declared.fault.TxFault.TheVariants.{Refused as RefusedBy, Moved, Rows as OfRows}
use Rattle.jv_model.specs.declared.op.Op.{Op}
use Rattle.jv_model.specs.declared.op.Op.TheVariants as op
use Rattle.jv_model.specs.declared.op.Reply.{Reply}
use Rattle.jv_model.specs.declared.op.Reply.TheVariants as reply
use Rattle.jv_model.specs.declared.op.Step.TheVariants.{Done}
use Rattle.jv_model.specs.promise.tree.Tree.{Tree, is_sustained}
use Rattle.jv_model.specs.promise.tree.Caller.{Caller, Outcome}
use Rattle.jv_model.specs.promise.tree.TreeAct.{tree_act}
use Rattle.jv_model.specs.promise.client.ModelClient.{ModelClient, free_handle}
use Rattle.jv_model.specs.promise.client.Profile.{handle_of}
use Rattle.jv_model.specs.promise.journal.State.{State, Gift, NewSession, NewHandle, Nothing, after_told, caller, gift_of, is_refused}
use Rattle.jv_model.specs.promise.journal.State.{newly_sustained, transacted}
use Rattle.jv_model.specs.promise.journal.Steps.{entry_of_gift, told_of, transacts}
use Rattle.jv_model.specs.promise.Lists.{is_among}
use Rattle.jv_model.specs.client.OpForms.{is_metadata, takes_entries, is_write}
use Rattle.jv_model.specs.promise.client.OpForms.{is_read}
use Rattle.jv_outside.specs.promise.Store.{Store}
use Rattle.jv_volume.proofs.holding.HoldingLaws.{sustains_none, sustains_held}
use Rattle.jv_volume.proofs.operations.OpeningLaws.{opened_file}
use Rattle.jv_links.specs.Removals.{HoldsFiles, is_inode}
use Rattle.jv_client_metadata.specs.declared.answers.Answer.{Answer}
use Rattle.jv_client_metadata.specs.Attempts.{KeepsOne, SaysKept}
use Rattle.jv_model.specs.promise.tree.TreeAct.{attempt}
use Rattle.jv_client_shared.specs.Keeping.{KeepsShared}
use Rattle.jv_client_shared.specs.promise.Shared.{HasStore, Known, Shared}
use Rattle.jv_client_handles.specs.Handles.{held_here, inode_here}
use Rattle.jv_client_handles.proofs.HandleLaws.{handles-free, handles-held, handles-inode}
use Rattle.jv_model_steps.specs.Stages.{handed}
use Rattle.jv_model_steps.proofs.GiftLaws.{among-sustained}
use Rattle.jv_model_steps.proofs.TransactionStepLaws.{asks-by_gift}
use Rattle.jv_client_requests.specs.Request.{Request}
use Rattle.jv_client_requests.proofs.LandedLaws.{acted-stays, store-shape}
use Rattle.jv_client_requests.proofs.MetadataLaws.{keeps-told, transaction-never_bad}
use Rattle.jv_client_requests.proofs.MetadataLaws.{transaction-never_moved, transaction-not_made, transaction-not_made_calm}
use Rattle.jv_client_requests.proofs.MetadataLaws.{transaction-request}
use Rattle.jv_client.specs.declared.doing.Doing.{Doing}
use Rattle.jv_client.specs.declared.made.Made.{Made}
use Rattle.jv_client.specs.declared.made.Made.TheVariants.{Both}
use Rattle.jv_client.specs.ClientValue.{ClientValue, session_here}
use Rattle.jv_client.specs.Held.{IsClient, IsHeld, Holds, in_flight}
use Rattle.jv_client.specs.UnderWay.{ClosesOpen, IsReady, asks_more, left, makes_transaction}
use Rattle.jv_client.specs.Makes.{FailsAlone, IsCalm, Makes, StepsTo, kinds_of}
use Rattle.jv_client.specs.Transacting.{IsCaller, Attempts, EndsUnmade, NotMade, answered_here, given_here}
use Rattle.jv_client.specs.Transacting.{handles_given, sustained_with}
use Rattle.jv_client.specs.CacheUse.{CacheUse, OfTransaction, is_miss}
use Rattle.jv_client.proofs.held.CacheUseLaws.{AsksRows, NoRead, cache-ended}
use Rattle.jv_client.proofs.steps.AnswerLaws.{Rests, makes-ended, request-lands, rests-flight, same-yard, told-rests}
use Rattle.jv_client.proofs.held.HeldLaws.{client-doing, doing_of, holds-later}
use Rattle.jv_client.proofs.held.LastHandleLaws.{is_last-same}
use Rattle.jv_client.proofs.held.EndingLaws.{holds-told, keeps_bytes}
use Rattle.jv_client.proofs.held.OthersStepLaws.{cache-goes, held-goes, told-client}
use Rattle.jv_client.proofs.steps.ClosingLaws.{closes-given}
use Rattle.jv_client.proofs.begun.FirstRequestLaws.{IsFirst, MakesOne, OfMount, OfMetadata, first-stage, model-flushed}
use Rattle.jv_client.proofs.begun.FirstRequestLaws.{makes-one, one-transacts, transaction-first}
use Rattle.jv_client.proofs.begun.FormLaws.{ready-closes}
use Rattle.jv_client.proofs.steps.RefusedTransactionLaws.{UnmadeLeads, unmade, uses-keeper}
use Rattle.jv_client.proofs.held.GiftLaws.{IsGift, among-kept, held-given, holds-given}

-- ---- an operation that was answered

-- an answer that is no refusal says of no device that it failed
calm-reply : (said : Reply) → is_refused said ≡ false → IsCalm (told_of said)
calm-reply (reply.Refused fault) e device = absurd (cc e)
calm-reply (reply.Uploaded None) e device = refl
calm-reply (reply.Uploaded (Some block)) e device = refl
calm-reply _ e device = refl

-- A step with a request of the keeper, which went well, and the answer.
module _ (now entry : ℕ) (h after : ClientValue) (kind : ActKind) (told : Told) (answer : Reply) (v : Shared)
    (keeper : Store) where
  pub answered-makes : Rests h after → CacheUse h after (Both kind told answer) v.yard v.yard → IsReady h
      → keeper.opened ≡ v.keeper.opened
      → keeper.faults ≡ v.keeper.faults → FailsAlone (Both kind told answer)
      → ((s : State) (g : Known) → s.count + 1 ≡ entry → HasStore s.tree g v → Holds s.tree (s.clients h.id)
      → IsClient g v (s.clients h.id) s.count h
      → StepsTo s g v h now (kind ∷ Answered told ∷ []) (Done answer) after (record v { keeper = keeper }))
      → Makes now entry h after v (record v { keeper = keeper }) (Both kind told answer)
  answered-makes rests cache ready opened counts alone leads =
      makes-ended now entry h after v (record v { keeper = keeper }) (Both kind told answer) answer refl ready rests
      (uses-keeper v keeper (Both kind told answer) opened counts (refl, refl, refl) (λ asks. absurd (cc asks)) tt)
      (same-yard now h (Both kind told answer) v.yard) cache alone leads

-- ---- which answers those are

keeps-none : (o : Op) (told : Told) → is_write o ≡ false → keeps_bytes o told ≡ false
keeps-none o (Fine a b c d) e = e
keeps-none o (Looks first second len) e = e
keeps-none o (ToldRefused fault) e = refl

metadata-plain : (o : Op) → is_metadata o ≡ true → is_write o ≡ false
metadata-plain (op.Write handle offset bytes) e = absurd (cc)
metadata-plain o e = refl

pub one-plain : (d : Doing) → MakesOne d → (told : Told) → keeps_bytes d.op told ≡ false
one-plain d (OfMount o) told = keeps-none d.op told (ap is_write o)
one-plain d (OfMetadata is spelled) told = keeps-none d.op told (metadata-plain d.op is)

-- and no read

metadata-reads_none : (o : Op) → is_metadata o ≡ true → is_read o ≡ false
metadata-reads_none (op.Read handle offset len) e = absurd (cc)
metadata-reads_none o e = refl

-- its entry is of no block
found-by_gift : (gift : Gift) → is_miss (entry_of_gift gift) ≡ false
found-by_gift (NewSession sid) = refl
found-by_gift (NewHandle handle inode) = refl
found-by_gift Nothing = refl

one-reads_none : (d : Doing) → MakesOne d → is_read d.op ≡ false
one-reads_none d (OfMount o) = ap is_read o
one-reads_none d (OfMetadata is spelled) = metadata-reads_none d.op is

-- ---- the step

-- one in whose name the operation is
abbrev pub caller_of : ClientValue → Op → ℕ → Caller
caller_of h o now = record {
  client = h.id;
  sid = session_here h;
  now = now;
  free_handle = free_handle h.handles;
  held = held_here h.handles;
  inode = inode_here h.handles (handle_of o);
  other = 0;
}

pub is_caller_of : (h : ClientValue) (o : Op) (now : ℕ) → IsCaller h o now (caller_of h o now)
is_caller_of h o now = record { client = refl; sid = refl; now_is = refl; held = refl; free = refl; inode = refl }

-- what a reply of the tree hands to its caller
module _ (t : Tree) (g : Known) (v : Shared) (has : HasStore t g v) (who : Caller) (o : Op) where
  replies-gift : (answer : Reply) → (tree_act t who o).reply ≡ answer
      → IsGift (tree_act t who o).tree who.free_handle (gift_of answer)
  replies-gift (reply.FileOpened handle inode) e = opened_file t who (store-shape t g v has) o handle inode e
  replies-gift (reply.SessionMade sid) e = tt
  replies-gift _ e = tt

module _ (now : ℕ) (h : ClientValue) (d : Doing) (busy : h.doing ≡ Some d) (ready : IsReady h)
    (flushed : left h ≡ None) (makes : IsTrue (makes_transaction d.does)) (asks : IsTrue (asks_more h d)) (v : Shared)
    (keeper : Store) where
  abbrev used : Shared
  used = record v { keeper = keeper }

  pub first : IsFirst h d
  first = transaction-first h d makes busy ready flushed

  one : MakesOne d
  one = (makes-one d makes h busy ready).0

  module _ (s : State) (g : Known) (has : HasStore s.tree g v) (holds : Holds s.tree (s.clients h.id))
      (is : IsClient g v (s.clients h.id) s.count h) where
    abbrev mine : ModelClient
    mine = s.clients h.id

    abbrev who : Caller
    who = caller mine h.id now d.op

    -- the model's transaction is made in the client's name
    pub caller-is : IsCaller h d.op now who
    caller-is = record {
      client = refl;
      sid = ap (λ session. unwrap_or session 0) is.held.session;
      now_is = refl;
      held = handles-held g v mine.views s.count mine.handles h.handles is.held.handles;
      free = handles-free g v mine.views s.count mine.handles h.handles is.held.handles;
      inode = handles-inode g v mine.views s.count mine.handles h.handles is.held.handles (handle_of d.op);
    }

    -- what the client has open are files
    pub holds-files : HoldsFiles who.held s.tree
    holds-files = λ inode among there. (holds.opened inode among).file there

    pub model-transacts : transacts mine (doing_of d) ≡ true
    model-transacts =
        one-transacts mine (doing_of d) h d refl refl (is_last-same g v mine s.count h is.held (handle_of d.op)) makes
        asks

    -- the file that the session keeps from then on
    comes-told : (answer : Answer) → SaysKept who d.op v.keeper (Ok answer) → (inode : ℕ)
        → (is_sustained (transacted s h.id now d.op).tree who.sid inode && not (is_sustained s.tree who.sid inode))
        ≡ is_inode answer.kept inode
    comes-told answer says inode = by_takes (takes_entries d.op) refl says
      where
        by_takes : (b : Bool) → takes_entries d.op ≡ b
            → MatchBool b (KeepsOne who d.op v.keeper answer.kept) (answer.kept ≡ None)
            → (is_sustained (transacted s h.id now d.op).tree who.sid inode && not
            (is_sustained s.tree who.sid inode)) ≡ is_inode answer.kept inode
        by_takes true e one =
            keeps-told s h.id now (doing_of d) (client-doing g v mine s.count h d busy is)
            first.started (first-stage h d first) (model-flushed h d first g v mine s.count is)
            model-transacts g v has 0 keeper holds-files answer.kept one inode
        by_takes false e none =
            sustains_none s.tree who d.op e inode ∙ sym (ap (λ kept. is_inode kept inode) none)

    module _ (answer : Answer) (t : Tree) (does : transacted s h.id now d.op ≡ record { tree = t; reply = answer.reply })
        (told : SaysKept who d.op v.keeper (Ok answer)) where
      abbrev out : Outcome
      out = record { tree = t; reply = answer.reply }

      abbrev gone : List ℕ
      gone = newly_sustained s.tree t mine

      among-gone : (inode : ℕ) → is_among inode gone ≡ is_inode answer.kept inode
      among-gone inode =
          subst (λ (out : Outcome). is_among inode (newly_sustained s.tree out.tree mine) ≡ is_inode answer.kept inode)
          does
          (among-sustained s.tree (transacted s h.id now d.op).tree mine inode
          (sustains_held s.tree who d.op inode) ∙ comes-told answer told inode)

      kept-same : (inode : ℕ) → is_among inode (gone ++ mine.sustained)
          ≡ is_among inode (sustained_with answer.kept h.sustained)
      kept-same inode =
          among-kept answer.kept gone mine.sustained h.sustained inode (among-gone inode) (is.held.removed inode)

      gift-fits : IsGift t who.free_handle (gift_of answer.reply)
      gift-fits =
          subst (λ (out : Outcome). IsGift out.tree who.free_handle (gift_of answer.reply)) does
          (replies-gift s.tree g v has who d.op answer.reply (ap (λ (out : Outcome). out.reply) does))

      -- the client with what it was handed
      held-handed : IsHeld g v (handed s (doing_of d) out mine) (s.count + 1) (given_here (s.count + 1) answer h)
      held-handed =
          held-given g v t s.count d.does gone answer.kept mine h kept-same (gift_of answer.reply)
          (makes-one d makes h busy ready).1
          (subst (λ n. IsGift t n (gift_of answer.reply)) caller-is.free gift-fits) is.held

      holds-handed : Holds t (handed s (doing_of d) out mine)
      holds-handed =
          holds-given t (s.count + 1) d.does gone mine who.free_handle (gift_of answer.reply) gift-fits
          (holds-later s.tree t mine (acted-stays s.tree g v has who d.op out does) holds)

      abbrev IsMade : Type 0
      IsMade = Request s g g v used h.id now (in_flight h) (in_flight h)
          (entry_of_gift (gift_of answer.reply) ∷ Answered (told_of answer.reply) ∷ []) (Done answer.reply) t
          (after_told d.op (told_of answer.reply) (handed s (doing_of d) out mine)) s.copied

      leads-made : IsMade
          → StepsTo s g v h now (entry_of_gift (gift_of answer.reply) ∷ Answered (told_of answer.reply) ∷ [])
          (Done answer.reply) (answered_here (s.count + 1) d.op answer h) used
      leads-made request =
          let told = told_of answer.reply in
          let kinds = entry_of_gift (gift_of answer.reply) ∷ Answered told ∷ [] in
          let after = answered_here (s.count + 1) d.op answer h in
          let model = after_told d.op told (handed s (doing_of d) out mine) in
          let plain : keeps_bytes d.op told ≡ false = one-plain d one told in
          let goes : KeepsShared request.own g g v used = request.leads.kept in
          let rests = told-rests d.op told (given_here (s.count + 1) answer h) in
          let landed = request-lands s g g v used h.id now (in_flight h) (in_flight h) kinds (Done answer.reply) t model
          s.copied request in
          record {
            learned = g;
            tree = t;
            model = model;
            copied = s.copied;
            request = subst (λ n. Request s g g v used h.id now (in_flight h) n kinds (Done answer.reply) t model
                s.copied) (sym (rests-flight (given_here (s.count + 1) answer h) after rests)) landed;
            is_client = told-client g used (s.count + 2) d.op told (handed s (doing_of d) out mine)
                (given_here (s.count + 1) answer h) plain
                (held-goes s.tree g v has request.own g used goes (handed s (doing_of d) out mine) (s.count + 1)
                (s.count + 2) (given_here (s.count + 1) answer h) (omega arith) held-handed)
                (cache-goes s.tree g v has request.own g used goes h.cache is.cache);
            holds = holds-told d.op told t (handed s (doing_of d) out mine) plain holds-handed;
          }

  -- it was made
  module _ (answer : Answer) (tried : Attempts h d.op now v.keeper keeper (Ok answer)) where
    abbrev made : Made
    made = Both (entry_of_gift (gift_of answer.reply)) (told_of answer.reply) answer.reply

    made-leads : (s : State) (g : Known) → HasStore s.tree g v → Holds s.tree (s.clients h.id)
        → IsClient g v (s.clients h.id) s.count h
        → StepsTo s g v h now (kinds_of made) (Done answer.reply) (answered_here (s.count + 1) d.op answer h) used
    made-leads s g has holds is =
        let who = caller (s.clients h.id) h.id now d.op in
        let known = caller-is s g has holds is in
        let doing = client-doing g v (s.clients h.id) s.count h d busy is in
        let stage = first-stage h d first in
        let none_left = model-flushed h d first g v (s.clients h.id) s.count is in
        let transacts = model-transacts s g has holds is in
        let files = holds-files s g has holds is in
        let tx = tried.does who known in
        let request = transaction-request s h.id now (doing_of d) doing first.started stage none_left transacts g v has
        (in_flight h) keeper (HoldsFiles who.held) files (λ (answer : Answer). answer.reply) answer tx in
        leads-made s g has holds is answer request.0 request.1 (tried.says who known) request.2

    pub transaction-made : (entry : ℕ) → Makes now entry h (answered_here entry d.op answer h) v used made
    transaction-made entry =
        let tx = tried.does (caller_of h d.op now) (is_caller_of h d.op now) in
        let rests = told-rests d.op (told_of answer.reply) (given_here entry answer h) in
        answered-makes now entry h (answered_here entry d.op answer h) (entry_of_gift (gift_of answer.reply))
        (told_of answer.reply) answer.reply v keeper
        (record { id = rests.id; limits = rests.limits; idle = rests.idle })
        (cache-ended h d busy (answered_here entry d.op answer h) made v.yard v.yard (given_here entry answer h)
        (told_of answer.reply)
        (NoRead (one-reads_none d one) (found-by_gift (gift_of answer.reply)) refl) refl refl refl tt)
        ready tx.opened_at tx.counts
        (asks-by_gift (gift_of answer.reply), calm-reply answer.reply tried.answers)
        (λ s g number has holds is.
        subst (λ n. StepsTo s g v h now (kinds_of made) (Done answer.reply) (answered_here n d.op answer h) used) number
        (made-leads s g has holds is))

  -- it wasn't
  module _ (fault : TxFault) (tried : Attempts h d.op now v.keeper keeper (Err fault)) where
    not_made : NotMade fault v.keeper keeper
    not_made =
        let tx = tried.does (caller_of h d.op now) (is_caller_of h d.op now) in
        record { rows_are = tx.undone; opened_at = tx.opened_at; counts = tx.counts; bad = tx.bad }

  module _ (s : State) (g : Known) (has : HasStore s.tree g v) (holds : Holds s.tree (s.clients h.id))
      (is : IsClient g v (s.clients h.id) s.count h) where
    unmade-leads : (fault : TxFault) → Attempts h d.op now v.keeper keeper (Err fault)
        → UnmadeLeads now h d v used Meta fault s g
    unmade-leads (RefusedBy fault) tried =
        let who = caller (s.clients h.id) h.id now d.op in
        let tx = tried.does who (caller-is s g has holds is) in
        let refused = transaction-not_made s h.id now (doing_of d)
        (client-doing g v (s.clients h.id) s.count h d busy is) first.started (first-stage h d first) (model-flushed h d first g v (s.clients h.id) s.count is)
        (model-transacts s g has holds is) g v has
        (in_flight h) keeper (HoldsFiles who.held) (holds-files s g has holds is)
        (λ (answer : Answer). answer.reply) fault tx in
        record {
          request = request-lands s g g v used h.id now (in_flight h) (in_flight h)
              (Meta ∷ Answered (ToldRefused fault) ∷ []) (Done (reply.Refused fault)) s.tree
              (after_told d.op (ToldRefused fault) (s.clients h.id)) s.copied refused;
          calm = transaction-not_made_calm s h.id now (doing_of d)
              (client-doing g v (s.clients h.id) s.count h d busy is) first.started (first-stage h d first) (model-flushed h d first g v (s.clients h.id) s.count is)
              (model-transacts s g has holds is) g v has
              (in_flight h) keeper (HoldsFiles who.held) (holds-files s g has holds is)
              (λ (answer : Answer). answer.reply) fault tx;
        }
    unmade-leads (Moved list) tried =
        let who = caller (s.clients h.id) h.id now d.op in
        transaction-never_moved s.tree g v has keeper (HoldsFiles who.held) (λ (answer : Answer). answer.reply)
        (λ t. attempt t who d.op) (holds-files s g has holds is) list
        (tried.does who (caller-is s g has holds is))
    unmade-leads (OfRows (Bad at bytes)) tried =
        let who = caller (s.clients h.id) h.id now d.op in
        transaction-never_bad s.tree g v has keeper (HoldsFiles who.held) (λ (answer : Answer). answer.reply)
        (λ t. attempt t who d.op) (holds-files s g has holds is) at bytes
        (tried.does who (caller-is s g has holds is))
    unmade-leads (OfRows Failed) tried = tt
    unmade-leads (OfRows Memory) tried = tt

  pub transaction-unmade : (entry : ℕ) (fault : TxFault) (after : ClientValue) (done : Made)
      → Attempts h d.op now v.keeper keeper (Err fault) → EndsUnmade Meta fault h after done
      → Makes now entry h after v used done
  transaction-unmade entry fault after done tried ends =
      unmade now entry h after d v keeper busy ready
      (λ done fine. AsksRows (one-reads_none d one) fine (OfTransaction flushed asks)) Meta fault done refl refl
      (not_made fault tried) ends
      (λ s g number has holds is. unmade-leads s g has holds is fault tried)

-- the handle of a close is open while a reply hands another one to the client
pub given-open : (h : ClientValue) (d : Doing) (entry : ℕ) (gift : Gift) → h.doing ≡ Some d → IsReady h
    → ClosesOpen d.op (handles_given entry gift h.handles)
given-open h d entry gift busy ready =
    closes-given d.op entry gift h.handles (ready-closes h d busy ready)
