use Rattle.jv_links.proofs.entries.LinkingLaws.{link-not_found, link-no_place, link-not_put, link-no_status, link-done}
use Rattle.jv_links.proofs.linking.link.Goals as goal

pub returns-in_err-inode : goal.returns-in_err-inode
returns-in_err-inode g c caller is_for =
    link-not_found c.args.who.now caller is_for c.args.path.now c.args.to.now (g.K.Keeper.seen c.args.k.now)
    (g.K.Keeper.seen c.find_linkable.new.k)
    c.from_residual.result c.in_err-inode.field-0.0 c.from_residual.ensures.1 c.in_err-inode.ensures

pub returns-in_err-place : goal.returns-in_err-place
returns-in_err-place g c caller is_for =
    link-no_place c.args.who.now caller is_for c.args.path.now c.args.to.now (g.K.Keeper.seen c.args.k.now)
    (g.K.Keeper.seen c.find_linkable.new.k)
    c.in_ok-inode.inode c.in_ok-inode.ensures (g.K.Keeper.seen c.new_place.new.k)
    c.from_residual-in_err-place.result c.in_err-place.field-0.0 c.from_residual-in_err-place.ensures.1
    c.in_err-place.ensures

pub returns-in_err-put_entry : goal.returns-in_err-put_entry
returns-in_err-put_entry g c caller is_for =
    link-not_put c.args.who.now caller is_for c.args.path.now c.args.to.now (g.K.Keeper.seen c.args.k.now)
    (g.K.Keeper.seen c.find_linkable.new.k)
    c.in_ok-inode.inode c.in_ok-inode.ensures (g.K.Keeper.seen c.new_place.new.k) c.in_ok-place.place
    c.in_ok-place.ensures c.requires
    c.new-draft.result c.new-draft.ensures c.args.who.now.now is_for.now (g.K.Keeper.seen c.put_entry.new.k)
    c.put_entry.new.draft
    c.stored_links-links.ensures.few c.from_residual-in_err-put_entry.result c.in_err-put_entry.field-0.0
    c.from_residual-in_err-put_entry.ensures.1 c.in_err-put_entry.ensures

pub returns-in_err-change_status : goal.returns-in_err-change_status
returns-in_err-change_status g c caller is_for =
    link-no_status c.args.who.now caller is_for c.args.path.now c.args.to.now (g.K.Keeper.seen c.args.k.now)
    (g.K.Keeper.seen c.find_linkable.new.k)
    c.in_ok-inode.inode c.in_ok-inode.ensures (g.K.Keeper.seen c.new_place.new.k) c.in_ok-place.place
    c.in_ok-place.ensures c.requires
    c.new-draft.result c.new-draft.ensures c.args.who.now.now is_for.now (g.K.Keeper.seen c.put_entry.new.k)
    c.put_entry.new.draft
    c.in_ok-put_entry.ensures (g.K.Keeper.seen c.change_status.new.k) c.change_status.new.draft
    c.from_residual-in_err-change_status.result c.in_err-change_status.field-0.0
    c.from_residual-in_err-change_status.ensures.1 c.in_err-change_status.ensures

pub returns-in-Ok : goal.returns-in-Ok
returns-in-Ok g c caller is_for =
    link-done c.args.who.now caller is_for c.args.path.now c.args.to.now (g.K.Keeper.seen c.args.k.now)
    (g.K.Keeper.seen c.find_linkable.new.k)
    c.in_ok-inode.inode c.in_ok-inode.ensures (g.K.Keeper.seen c.new_place.new.k) c.in_ok-place.place
    c.in_ok-place.ensures c.requires
    c.new-draft.result c.new-draft.ensures c.args.who.now.now is_for.now (g.K.Keeper.seen c.put_entry.new.k)
    c.put_entry.new.draft
    c.in_ok-put_entry.ensures (g.K.Keeper.seen c.change_status.new.k) c.change_status.new.draft
    c.in_ok-change_status.ensures
    (g.K.Keeper.seen c.commit.new.k) c.in-Ok.ensures
