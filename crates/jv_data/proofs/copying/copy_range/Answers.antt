use Rattle.std.proofs.Common.{◌≡◌, ◌+◌, ◌-◌, ℕ, Ok, Err, true, false, refl, sym, subst, ◌∙◌, arith}
use Rattle.std.specs.Prelude.{◌==◌, ◌&&◌, min, nat_le}
use Rattle.std.proofs.lemmas.Result.{err_from_is_err_and}
use Rattle.jv_model.specs.declared.fault.Fault.TheVariants.{FileTooLarge, Invalid}
use Rattle.jv_model.specs.declared.fault.TxFault.TheVariants.{Refused, Rows as OfRows}
use Rattle.jv_model.specs.declared.limits.TheConstants.{FILE_END}
use Rattle.jv_model.specs.rows.RowFaults.{row_fault}
use Rattle.jv_model.specs.promise.tree.FileBytes.{overlap}
use Rattle.jv_data.specs.Resizing.{ResizesFile}
use Rattle.jv_data.proofs.copies.CopyEndsLaws.{adjusts-as, ends-as, copy-no_source, copy-no_target, copy-overlaps, copy-too_long, copy-none, copy-no_room, copy-unread, copy-uncounted, copy-down, copy-done, rest-none, rest-done, pieces-nothing, pieces-done}
use Rattle.jv_data.proofs.copying.copy_range.Goals as goal

pub returns-in_err-source-clause-changes : goal.returns-in_err-source-clause-changes
returns-in_err-source-clause-changes g c caller due for of other =
    let p = err_from_is_err_and c.from_residual.result c.from_residual.ensures.1 in
    rw (p.1, p.2)
    (ends-as c.args.who.now c.args.src c.args.dst c.args.from c.args.to c.args.len c.args.who.now.now due (g.K.Keeper.seen c.args.k.now) (g.K.Keeper.seen c.file.new.k)
    (Err c.in_err-source.field-0.0) refl
    (copy-no_source c.args.who.now.sid c.args.who.now.now c.args.src c.args.dst c.args.from c.args.to c.args.len due (g.K.Keeper.seen c.args.k.now) (g.K.Keeper.seen c.file.new.k)
    c.in_err-source.field-0.0 c.in_err-source.ensures) caller for of other)

pub returns-in_err-target-clause-changes : goal.returns-in_err-target-clause-changes
returns-in_err-target-clause-changes g c caller due for of other =
    let p = err_from_is_err_and c.from_residual-in_err-target.result c.from_residual-in_err-target.ensures.1 in
    rw (p.1, p.2)
    (ends-as c.args.who.now c.args.src c.args.dst c.args.from c.args.to c.args.len c.args.who.now.now due (g.K.Keeper.seen c.args.k.now) (g.K.Keeper.seen c.file-2.new.k)
    (Err c.in_err-target.field-0.0) refl
    (copy-no_target c.args.who.now.sid c.args.who.now.now c.args.src c.args.dst c.args.from c.args.to c.args.len due (g.K.Keeper.seen c.args.k.now) (g.K.Keeper.seen c.file.new.k)
    c.in_ok-source.source c.in_ok-source.ensures (g.K.Keeper.seen c.file-2.new.k)
    c.in_err-target.field-0.0 c.in_err-target.ensures) caller for of other)

pub returns-then-overlaps-clause-changes : goal.returns-then-overlaps-clause-changes
returns-then-overlaps-clause-changes g c caller due for of other =
    let n_is : c.min-len.result ≡ min c.args.len (min c.in_ok-source.source.length FILE_END - c.args.from) = omega arith in
    let apart : ((c.args.src == c.args.dst) && overlap c.args.from c.args.to c.min-len.result) ≡ true = sym c.overlaps.ensures ∙ c.if-overlaps.true in
    (ends-as c.args.who.now c.args.src c.args.dst c.args.from c.args.to c.args.len c.args.who.now.now due (g.K.Keeper.seen c.args.k.now) (g.K.Keeper.seen c.file-2.new.k)
    (Err (Refused Invalid)) refl
    (copy-overlaps c.args.who.now.sid c.args.who.now.now c.args.src c.args.dst c.args.from c.args.to c.args.len due (g.K.Keeper.seen c.args.k.now) (g.K.Keeper.seen c.file.new.k)
    c.in_ok-source.source c.in_ok-source.ensures (g.K.Keeper.seen c.file-2.new.k) c.in_ok-target.target c.in_ok-target.ensures
    c.min-len.result n_is apart) caller for of other)

pub returns-then-not-ends_in_file-clause-changes : goal.returns-then-not-ends_in_file-clause-changes
returns-then-not-ends_in_file-clause-changes g c caller due for of other =
    let n_is : c.min-len.result ≡ min c.args.len (min c.in_ok-source.source.length FILE_END - c.args.from) = omega arith in
    let apart : ((c.args.src == c.args.dst) && overlap c.args.from c.args.to c.min-len.result) ≡ false = sym c.overlaps.ensures ∙ c.if-overlaps.false in
    let within : nat_le (c.args.to + c.min-len.result) FILE_END ≡ false = (let e = c.ends_in_file.ensures in let t = c.if-not-ends_in_file.true in cc) in
    (ends-as c.args.who.now c.args.src c.args.dst c.args.from c.args.to c.args.len c.args.who.now.now due (g.K.Keeper.seen c.args.k.now) (g.K.Keeper.seen c.file-2.new.k)
    (Err (Refused FileTooLarge)) refl
    (copy-too_long c.args.who.now.sid c.args.who.now.now c.args.src c.args.dst c.args.from c.args.to c.args.len due (g.K.Keeper.seen c.args.k.now) (g.K.Keeper.seen c.file.new.k)
    c.in_ok-source.source c.in_ok-source.ensures (g.K.Keeper.seen c.file-2.new.k) c.in_ok-target.target c.in_ok-target.ensures
    c.min-len.result n_is apart within) caller for of other)

pub returns-then-len-eq0-clause-changes : goal.returns-then-len-eq0-clause-changes
returns-then-len-eq0-clause-changes g c caller due for of other =
    let n_is : c.min-len.result ≡ min c.args.len (min c.in_ok-source.source.length FILE_END - c.args.from) = omega arith in
    let apart : ((c.args.src == c.args.dst) && overlap c.args.from c.args.to c.min-len.result) ≡ false = sym c.overlaps.ensures ∙ c.if-overlaps.false in
    let within : nat_le (c.args.to + c.min-len.result) FILE_END ≡ true = (let e = c.ends_in_file.ensures in let t = c.if-not-ends_in_file.false in cc) in
    (ends-as c.args.who.now c.args.src c.args.dst c.args.from c.args.to c.args.len c.args.who.now.now due (g.K.Keeper.seen c.args.k.now) (g.K.Keeper.seen c.file-2.new.k)
    (Ok 0) refl
    (copy-none c.args.who.now.sid c.args.who.now.now c.args.src c.args.dst c.args.from c.args.to c.args.len due (g.K.Keeper.seen c.args.k.now) (g.K.Keeper.seen c.file.new.k)
    c.in_ok-source.source c.in_ok-source.ensures (g.K.Keeper.seen c.file-2.new.k) c.in_ok-target.target c.in_ok-target.ensures
    c.min-len.result n_is apart within c.if-len-eq0.true) caller for of other)

pub returns-then-len-eq0-clause-rest : goal.returns-then-len-eq0-clause-rest
returns-then-len-eq0-clause-rest g c =
    let n_is : c.min-len.result ≡ min c.args.len (min c.in_ok-source.source.length FILE_END - c.args.from) = omega arith in
    let apart : ((c.args.src == c.args.dst) && overlap c.args.from c.args.to c.min-len.result) ≡ false = sym c.overlaps.ensures ∙ c.if-overlaps.false in
    let within : nat_le (c.args.to + c.min-len.result) FILE_END ≡ true = (let e = c.ends_in_file.ensures in let t = c.if-not-ends_in_file.false in cc) in
    rest-none c.args.who.now.sid c.args.who.now.now c.args.src c.args.dst c.args.from c.args.to c.args.len (λ setting. 0) (g.K.Keeper.seen c.args.k.now) (g.K.Keeper.seen c.file.new.k)
    c.in_ok-source.source c.in_ok-source.ensures (g.K.Keeper.seen c.file-2.new.k) c.in_ok-target.target c.in_ok-target.ensures
    c.min-len.result n_is apart within

pub returns-then-len-eq0-clause-pieces : goal.returns-then-len-eq0-clause-pieces
returns-then-len-eq0-clause-pieces g c =
    let n_is : c.min-len.result ≡ min c.args.len (min c.in_ok-source.source.length FILE_END - c.args.from) = omega arith in
    let apart : ((c.args.src == c.args.dst) && overlap c.args.from c.args.to c.min-len.result) ≡ false = sym c.overlaps.ensures ∙ c.if-overlaps.false in
    let within : nat_le (c.args.to + c.min-len.result) FILE_END ≡ true = (let e = c.ends_in_file.ensures in let t = c.if-not-ends_in_file.false in cc) in
    pieces-nothing c.args.who.now.sid c.args.who.now.now c.args.src c.args.dst c.args.from c.args.to c.args.len (λ setting. 0) (g.K.Keeper.seen c.args.k.now) (g.K.Keeper.seen c.file.new.k)
    c.in_ok-source.source c.in_ok-source.ensures (g.K.Keeper.seen c.file-2.new.k) c.in_ok-target.target c.in_ok-target.ensures
    c.min-len.result n_is apart within

pub returns-in_err-resize-clause-changes : goal.returns-in_err-resize-clause-changes
returns-in_err-resize-clause-changes g c caller due for of other =
    let n_is : c.min-len.result ≡ min c.args.len (min c.in_ok-source.source.length FILE_END - c.args.from) = omega arith in
    let apart : ((c.args.src == c.args.dst) && overlap c.args.from c.args.to c.min-len.result) ≡ false = sym c.overlaps.ensures ∙ c.if-overlaps.false in
    let within : nat_le (c.args.to + c.min-len.result) FILE_END ≡ true = (let e = c.ends_in_file.ensures in let t = c.if-not-ends_in_file.false in cc) in
    let p = err_from_is_err_and c.from_residual-in_err-resize.result c.from_residual-in_err-resize.ensures.1 in
    rw (p.1, p.2)
    (ends-as c.args.who.now c.args.src c.args.dst c.args.from c.args.to c.args.len c.seconds.result due (g.K.Keeper.seen c.args.k.now) (g.K.Keeper.seen c.resize.new.k)
    (Err c.in_err-resize.field-0.0) c.seconds.ensures.seconds
    (copy-no_room c.args.who.now.sid c.seconds.result c.args.src c.args.dst c.args.from c.args.to c.args.len due (g.K.Keeper.seen c.args.k.now) (g.K.Keeper.seen c.file.new.k)
    c.in_ok-source.source c.in_ok-source.ensures (g.K.Keeper.seen c.file-2.new.k) c.in_ok-target.target c.in_ok-target.ensures
    c.min-len.result n_is apart within c.if-len-eq0.false (g.K.Keeper.seen c.resize.new.k) c.resize.new.draft
    c.in_err-resize.field-0.0
    (subst (λ (m : ℕ). ResizesFile c.args.dst c.in_ok-target.target m c.seconds.result (g.K.Keeper.seen c.file-2.new.k) (g.K.Keeper.seen c.resize.new.k)
    c.resize.new.draft (Err c.in_err-resize.field-0.0)) c.max-length.ensures c.in_err-resize.ensures)) caller for of other)

pub returns-in_err-added-clause-changes : goal.returns-in_err-added-clause-changes
returns-in_err-added-clause-changes g c caller due for of other =
    let n_is : c.min-len.result ≡ min c.args.len (min c.in_ok-source.source.length FILE_END - c.args.from) = omega arith in
    let apart : ((c.args.src == c.args.dst) && overlap c.args.from c.args.to c.min-len.result) ≡ false = sym c.overlaps.ensures ∙ c.if-overlaps.false in
    let within : nat_le (c.args.to + c.min-len.result) FILE_END ≡ true = (let e = c.ends_in_file.ensures in let t = c.if-not-ends_in_file.false in cc) in
    let p = err_from_is_err_and c.from_residual-in_err-added.result c.from_residual-in_err-added.ensures.1 in
    rw (p.1, p.2)
    (ends-as c.args.who.now c.args.src c.args.dst c.args.from c.args.to c.args.len c.seconds.result due (g.K.Keeper.seen c.args.k.now) (g.K.Keeper.seen c.copy_lists.new.k)
    (Err c.in_err-added.field-0.0) c.seconds.ensures.seconds
    (copy-unread c.args.who.now.sid c.seconds.result c.args.src c.args.dst c.args.from c.args.to c.args.len due (g.K.Keeper.seen c.args.k.now) (g.K.Keeper.seen c.file.new.k)
    c.in_ok-source.source c.in_ok-source.ensures (g.K.Keeper.seen c.file-2.new.k) c.in_ok-target.target c.in_ok-target.ensures
    c.min-len.result n_is apart within c.if-len-eq0.false (g.K.Keeper.seen c.resize.new.k) c.resize.new.draft
    (subst (λ (m : ℕ). ResizesFile c.args.dst c.in_ok-target.target m c.seconds.result (g.K.Keeper.seen c.file-2.new.k) (g.K.Keeper.seen c.resize.new.k)
    c.resize.new.draft (Ok tt)) c.max-length.ensures c.in_ok-resize.ensures)
    (g.K.Keeper.seen c.copy_lists.new.k) c.copy_lists.new.draft c.in_err-added.field-0.0 c.in_err-added.ensures) caller for of other)

pub returns-in_err-adjust-clause-changes : goal.returns-in_err-adjust-clause-changes
returns-in_err-adjust-clause-changes g c caller due for of other =
    let n_is : c.min-len.result ≡ min c.args.len (min c.in_ok-source.source.length FILE_END - c.args.from) = omega arith in
    let apart : ((c.args.src == c.args.dst) && overlap c.args.from c.args.to c.min-len.result) ≡ false = sym c.overlaps.ensures ∙ c.if-overlaps.false in
    let within : nat_le (c.args.to + c.min-len.result) FILE_END ≡ true = (let e = c.ends_in_file.ensures in let t = c.if-not-ends_in_file.false in cc) in
    let p = err_from_is_err_and c.from_residual-in_err-adjust.result c.from_residual-in_err-adjust.ensures.1 in
    rw (p.1, p.2)
    (ends-as c.args.who.now c.args.src c.args.dst c.args.from c.args.to c.args.len c.seconds.result due (g.K.Keeper.seen c.args.k.now) (g.K.Keeper.seen c.adjust.new.k)
    (Err c.in_err-adjust.field-0.0) c.seconds.ensures.seconds
    (copy-uncounted c.args.who.now.sid c.seconds.result c.args.src c.args.dst c.args.from c.args.to c.args.len due (g.K.Keeper.seen c.args.k.now) (g.K.Keeper.seen c.file.new.k)
    c.in_ok-source.source c.in_ok-source.ensures (g.K.Keeper.seen c.file-2.new.k) c.in_ok-target.target c.in_ok-target.ensures
    c.min-len.result n_is apart within c.if-len-eq0.false (g.K.Keeper.seen c.resize.new.k) c.resize.new.draft
    (subst (λ (m : ℕ). ResizesFile c.args.dst c.in_ok-target.target m c.seconds.result (g.K.Keeper.seen c.file-2.new.k) (g.K.Keeper.seen c.resize.new.k)
    c.resize.new.draft (Ok tt)) c.max-length.ensures c.in_ok-resize.ensures)
    (g.K.Keeper.seen c.copy_lists.new.k) c.copy_lists.new.draft c.in_ok-added.added c.in_ok-added.ensures
    (g.K.Keeper.seen c.adjust.new.k) c.adjust.new.draft c.in_err-adjust.field-0.0
    (adjusts-as c.as_slice.result.now c.as_slice-2.result.now c.in_ok-added.added 0 (g.K.Keeper.seen c.copy_lists.new.k) (g.K.Keeper.seen c.adjust.new.k)
    c.copy_lists.new.draft c.adjust.new.draft (Err c.in_err-adjust.field-0.0) (c.as_slice.ensures ∙ c.new-none.ensures) c.as_slice-2.ensures c.in_err-adjust.ensures)) caller for of other)

pub returns-in-Ok-clause-changes : goal.returns-in-Ok-clause-changes
returns-in-Ok-clause-changes g c caller due for of other =
    let n_is : c.min-len.result ≡ min c.args.len (min c.in_ok-source.source.length FILE_END - c.args.from) = omega arith in
    let apart : ((c.args.src == c.args.dst) && overlap c.args.from c.args.to c.min-len.result) ≡ false = sym c.overlaps.ensures ∙ c.if-overlaps.false in
    let within : nat_le (c.args.to + c.min-len.result) FILE_END ≡ true = (let e = c.ends_in_file.ensures in let t = c.if-not-ends_in_file.false in cc) in
    (ends-as c.args.who.now c.args.src c.args.dst c.args.from c.args.to c.args.len c.seconds.result due (g.K.Keeper.seen c.args.k.now) (g.K.Keeper.seen c.commit.new.k)
    (Ok c.min-len.result) c.seconds.ensures.seconds
    (copy-done c.args.who.now.sid c.seconds.result c.args.src c.args.dst c.args.from c.args.to c.args.len due (g.K.Keeper.seen c.args.k.now) (g.K.Keeper.seen c.file.new.k)
    c.in_ok-source.source c.in_ok-source.ensures (g.K.Keeper.seen c.file-2.new.k) c.in_ok-target.target c.in_ok-target.ensures
    c.min-len.result n_is apart within c.if-len-eq0.false (g.K.Keeper.seen c.resize.new.k) c.resize.new.draft
    (subst (λ (m : ℕ). ResizesFile c.args.dst c.in_ok-target.target m c.seconds.result (g.K.Keeper.seen c.file-2.new.k) (g.K.Keeper.seen c.resize.new.k)
    c.resize.new.draft (Ok tt)) c.max-length.ensures c.in_ok-resize.ensures)
    (g.K.Keeper.seen c.copy_lists.new.k) c.copy_lists.new.draft c.in_ok-added.added c.in_ok-added.ensures
    (g.K.Keeper.seen c.adjust.new.k) c.adjust.new.draft
    (adjusts-as c.as_slice.result.now c.as_slice-2.result.now c.in_ok-added.added 0 (g.K.Keeper.seen c.copy_lists.new.k) (g.K.Keeper.seen c.adjust.new.k)
    c.copy_lists.new.draft c.adjust.new.draft (Ok tt) (c.as_slice.ensures ∙ c.new-none.ensures) c.as_slice-2.ensures c.in_ok-adjust.ensures)
    (g.K.Keeper.seen c.commit.new.k) c.in-Ok.ensures) caller for of other)

pub returns-in-Ok-clause-rest : goal.returns-in-Ok-clause-rest
returns-in-Ok-clause-rest g c =
    let n_is : c.min-len.result ≡ min c.args.len (min c.in_ok-source.source.length FILE_END - c.args.from) = omega arith in
    let apart : ((c.args.src == c.args.dst) && overlap c.args.from c.args.to c.min-len.result) ≡ false = sym c.overlaps.ensures ∙ c.if-overlaps.false in
    let within : nat_le (c.args.to + c.min-len.result) FILE_END ≡ true = (let e = c.ends_in_file.ensures in let t = c.if-not-ends_in_file.false in cc) in
    rest-done c.args.who.now.sid c.seconds.result c.args.src c.args.dst c.args.from c.args.to c.args.len (λ setting. 0) (g.K.Keeper.seen c.args.k.now) (g.K.Keeper.seen c.file.new.k)
    c.in_ok-source.source c.in_ok-source.ensures (g.K.Keeper.seen c.file-2.new.k) c.in_ok-target.target c.in_ok-target.ensures
    c.min-len.result n_is apart within c.if-len-eq0.false (g.K.Keeper.seen c.resize.new.k) c.resize.new.draft
    (subst (λ (m : ℕ). ResizesFile c.args.dst c.in_ok-target.target m c.seconds.result (g.K.Keeper.seen c.file-2.new.k) (g.K.Keeper.seen c.resize.new.k)
    c.resize.new.draft (Ok tt)) c.max-length.ensures c.in_ok-resize.ensures)
    (g.K.Keeper.seen c.copy_lists.new.k) c.copy_lists.new.draft c.in_ok-added.added c.in_ok-added.ensures
    (g.K.Keeper.seen c.adjust.new.k) c.adjust.new.draft
    (adjusts-as c.as_slice.result.now c.as_slice-2.result.now c.in_ok-added.added 0 (g.K.Keeper.seen c.copy_lists.new.k) (g.K.Keeper.seen c.adjust.new.k)
    c.copy_lists.new.draft c.adjust.new.draft (Ok tt) (c.as_slice.ensures ∙ c.new-none.ensures) c.as_slice-2.ensures c.in_ok-adjust.ensures)
    (g.K.Keeper.seen c.commit.new.k) c.in-Ok.ensures

pub returns-in-Ok-clause-pieces : goal.returns-in-Ok-clause-pieces
returns-in-Ok-clause-pieces g c =
    let n_is : c.min-len.result ≡ min c.args.len (min c.in_ok-source.source.length FILE_END - c.args.from) = omega arith in
    let apart : ((c.args.src == c.args.dst) && overlap c.args.from c.args.to c.min-len.result) ≡ false = sym c.overlaps.ensures ∙ c.if-overlaps.false in
    let within : nat_le (c.args.to + c.min-len.result) FILE_END ≡ true = (let e = c.ends_in_file.ensures in let t = c.if-not-ends_in_file.false in cc) in
    pieces-done c.args.who.now.sid c.seconds.result c.args.src c.args.dst c.args.from c.args.to c.args.len (λ setting. 0) (g.K.Keeper.seen c.args.k.now) (g.K.Keeper.seen c.file.new.k)
    c.in_ok-source.source c.in_ok-source.ensures (g.K.Keeper.seen c.file-2.new.k) c.in_ok-target.target c.in_ok-target.ensures
    c.min-len.result n_is apart within c.if-len-eq0.false (g.K.Keeper.seen c.resize.new.k) c.resize.new.draft
    (subst (λ (m : ℕ). ResizesFile c.args.dst c.in_ok-target.target m c.seconds.result (g.K.Keeper.seen c.file-2.new.k) (g.K.Keeper.seen c.resize.new.k)
    c.resize.new.draft (Ok tt)) c.max-length.ensures c.in_ok-resize.ensures)
    (g.K.Keeper.seen c.copy_lists.new.k) c.copy_lists.new.draft c.in_ok-added.added c.in_ok-added.ensures
    (g.K.Keeper.seen c.adjust.new.k) c.adjust.new.draft
    (adjusts-as c.as_slice.result.now c.as_slice-2.result.now c.in_ok-added.added 0 (g.K.Keeper.seen c.copy_lists.new.k) (g.K.Keeper.seen c.adjust.new.k)
    c.copy_lists.new.draft c.adjust.new.draft (Ok tt) (c.as_slice.ensures ∙ c.new-none.ensures) c.as_slice-2.ensures c.in_ok-adjust.ensures)
    (g.K.Keeper.seen c.commit.new.k) c.in-Ok.ensures

pub returns-clause-changes : goal.returns-clause-changes
returns-clause-changes g c caller due for of other =
    let n_is : c.min-len.result ≡ min c.args.len (min c.in_ok-source.source.length FILE_END - c.args.from) = omega arith in
    let apart : ((c.args.src == c.args.dst) && overlap c.args.from c.args.to c.min-len.result) ≡ false = sym c.overlaps.ensures ∙ c.if-overlaps.false in
    let within : nat_le (c.args.to + c.min-len.result) FILE_END ≡ true = (let e = c.ends_in_file.ensures in let t = c.if-not-ends_in_file.false in cc) in
    rw c.from.ensures
    (ends-as c.args.who.now c.args.src c.args.dst c.args.from c.args.to c.args.len c.seconds.result due (g.K.Keeper.seen c.args.k.now) (g.K.Keeper.seen c.commit.new.k)
    (Err (OfRows (row_fault c.in-Err.down))) c.seconds.ensures.seconds
    (copy-down c.args.who.now.sid c.seconds.result c.args.src c.args.dst c.args.from c.args.to c.args.len due (g.K.Keeper.seen c.args.k.now) (g.K.Keeper.seen c.file.new.k)
    c.in_ok-source.source c.in_ok-source.ensures (g.K.Keeper.seen c.file-2.new.k) c.in_ok-target.target c.in_ok-target.ensures
    c.min-len.result n_is apart within c.if-len-eq0.false (g.K.Keeper.seen c.resize.new.k) c.resize.new.draft
    (subst (λ (m : ℕ). ResizesFile c.args.dst c.in_ok-target.target m c.seconds.result (g.K.Keeper.seen c.file-2.new.k) (g.K.Keeper.seen c.resize.new.k)
    c.resize.new.draft (Ok tt)) c.max-length.ensures c.in_ok-resize.ensures)
    (g.K.Keeper.seen c.copy_lists.new.k) c.copy_lists.new.draft c.in_ok-added.added c.in_ok-added.ensures
    (g.K.Keeper.seen c.adjust.new.k) c.adjust.new.draft
    (adjusts-as c.as_slice.result.now c.as_slice-2.result.now c.in_ok-added.added 0 (g.K.Keeper.seen c.copy_lists.new.k) (g.K.Keeper.seen c.adjust.new.k)
    c.copy_lists.new.draft c.adjust.new.draft (Ok tt) (c.as_slice.ensures ∙ c.new-none.ensures) c.as_slice-2.ensures c.in_ok-adjust.ensures)
    (g.K.Keeper.seen c.commit.new.k) c.in-Err.down c.in-Err.ensures) caller for of other)
