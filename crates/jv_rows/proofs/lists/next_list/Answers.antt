use Rattle.std.proofs.Common.{◌-◌, ℕ, take, ap, sym, ◌∙◌}
use Rattle.std.proofs.lemmas.List.{append-nil}
use Rattle.jv_rows.proofs.scans.ListsLaws.{finds-unread, finds-other, finds-last, finds-none}
use Rattle.jv_rows.proofs.lists.next_list.Goals as goal

pub returns-in-Err : goal.returns-in-Err
returns-in-Err g c =
    finds-other c.args.inode c.args.last c.in_ok-after.after (g.K.Keeper.seen c.args.k.now) (g.K.Keeper.seen c.scan_rows.new.k) c.in-Err.fault
    c.in_ok-after.ensures (sym c.is_of_another.ensures ∙ c.if-is_of_another.true) c.in-Err.ensures

pub returns-in-Err-2 : goal.returns-in-Err-2
returns-in-Err-2 g c =
    finds-unread c.args.inode c.args.last c.in_ok-after.after (g.K.Keeper.seen c.args.k.now) (g.K.Keeper.seen c.scan_rows.new.k) c.in-Err.fault
    (sym c.is_of_another.ensures ∙ c.if-is_of_another.false) c.in-Err.ensures

pub returns-in-Some : goal.returns-in-Some
returns-in-Some g c =
    finds-last c.args.inode c.args.last c.in_ok-after.after (g.K.Keeper.seen c.args.k.now) (g.K.Keeper.seen c.scan_rows.new.k) c.in-Ok.rows c.pop.new.self.items
    c.in-Some.key c.in-Some.row c.list_of.result c.in_ok-after.ensures c.in-Ok.ensures (sym c.into_vec.ensures ∙ c.in-Some.ensures.items) c.list_of.ensures.found c.list_of.ensures.spelled

pub returns : goal.returns
returns g c =
    finds-none c.args.inode c.args.last c.in_ok-after.after (g.K.Keeper.seen c.args.k.now) (g.K.Keeper.seen c.scan_rows.new.k) c.in-Ok.rows
    c.in_ok-after.ensures c.in-Ok.ensures
    (sym c.into_vec.ensures ∙ c.in-None.ensures.items ∙ append-nil c.pop.new.self.items ∙ c.in-None.ensures.rest
    ∙ ap (λ (n : ℕ). take (n - 1) c.into_vec.result.items) c.in-None.ensures.cases.0)
