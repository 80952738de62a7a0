-- What was tried of an operation's transaction: by a mount, out of memory before it, and by a transaction on metadata.
use Rattle.std.proofs.Common.{◌≡◌, ℕ, Bool, Result, Ok, Err, refl, sym, ap, subst, ◌∙◌}
use Rattle.jv_model.specs.declared.basics.Who.{Who}
use Rattle.jv_model.specs.declared.fault.TxFault.{TxFault}
use Rattle.jv_model.specs.declared.op.Op.{Op}
use Rattle.jv_model.specs.declared.op.Op.TheVariants as op
use Rattle.jv_model.specs.declared.op.Reply.TheVariants.{SessionMade}
use Rattle.jv_model.specs.promise.tree.Caller.{Caller}
use Rattle.jv_model.specs.promise.tree.Sessions.{mount}
use Rattle.jv_model.specs.promise.client.ModelClient.{free_handle}
use Rattle.jv_model.specs.promise.client.Profile.{handle_of}
use Rattle.jv_outside.specs.promise.Store.{Store}
use Rattle.jv_rows.specs.Transactions.{IsFor, Transacts, Always}
use Rattle.jv_links.specs.Removals.{HoldsFiles}
use Rattle.jv_client_metadata.specs.declared.answers.Answer.{Answer}
use Rattle.jv_client_metadata.specs.Attempts.{AnswersPlainly, Asks, SaysKept, plain}
use Rattle.jv_model.specs.promise.tree.TreeAct.{attempt}
use Rattle.jv_client_metadata.proofs.AttemptLaws.{answers-mapped, transacts-always}
use Rattle.jv_client.specs.ClientValue.{ClientValue, session_here}
use Rattle.jv_client_handles.specs.Handles.{held_here, inode_here}
use Rattle.jv_client.specs.Transacting.{IsCaller, Attempts}
use Rattle.jv_model.specs.Optional.{mapped}

-- the answer of a mount
abbrev pub session_answer : ℕ → Answer
session_answer sid = plain (SessionMade sid)

-- a mount keeps no file
mount-says : (who : Caller) (o : Op) (writeback : Bool) (before : Store) (made : Result ℕ TxFault) → o ≡ op.Mount writeback
    → SaysKept who o before (mapped session_answer made)
mount-says who o writeback before (Ok sid) is = subst (λ x. SaysKept who x before (Ok (session_answer sid))) (sym is) refl
mount-says who o writeback before (Err fault) is = tt

pub tried_mount : (h : ClientValue) (o : Op) (writeback : Bool) (now : ℕ) (before after : Store) (made : Result ℕ TxFault) (result : Result Answer TxFault)
    → o ≡ op.Mount writeback
    → ((who : Caller) → who.client ≡ h.id → who.now ≡ now → Transacts Always before after made (λ sid. SessionMade sid) (λ t. mount t who))
    → result ≡ mapped session_answer made → Attempts h o now before after result
tried_mount h o writeback now before after made result is makes same = record {
  does = λ who mine.
      transacts-always who.held before after (λ sid. SessionMade sid) (λ t. mount t who) session_answer (λ sid. refl) made
      (makes who mine.client mine.now_is) result same (λ t. attempt t who o) (λ t. ap (attempt t who) is);
  says = λ who mine. subst (SaysKept who o before) (sym same) (mount-says who o writeback before made is);
  answers = answers-mapped session_answer (λ sid. refl) made result same;
}

-- a transaction on metadata, in the name of the client
pub tried_metadata : (h : ClientValue) (o : Op) (now : ℕ) (before after : Store) (result : Result Answer TxFault) (by : Who) (handle inode : ℕ)
    → by.sid ≡ session_here h → by.held ≡ held_here h.handles → by.now ≡ now → handle ≡ free_handle h.handles → inode ≡ inode_here h.handles (handle_of o)
    → ((who : Caller) → IsFor by who → Asks who handle inode
    → Transacts (HoldsFiles who.held) before after result (λ (answer : Answer). answer.reply) (λ t. attempt t who o))
    → ((who : Caller) → IsFor by who → SaysKept who o before result) → AnswersPlainly result → Attempts h o now before after result
tried_metadata h o now before after result by handle inode sid held at free names does says answers = record {
  does = λ who mine. does who (for who mine) (record { gets = mine.free ∙ sym free; names = mine.inode ∙ sym names });
  says = λ who mine. says who (for who mine);
  answers = answers;
}
  where
    for : (who : Caller) → IsCaller h o now who → IsFor by who
    for who mine = record { sid = mine.sid ∙ sym sid; now = mine.now_is ∙ sym at; held = mine.held ∙ sym held }
