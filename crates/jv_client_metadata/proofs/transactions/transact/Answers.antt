use Rattle.std.proofs.Common.{refl, sym, ap}
use Rattle.jv_model.specs.declared.op.Reply.TheVariants.{Done, Found, Described, FileOpened, Entries, Usage, Target}
use Rattle.jv_links.specs.Removals.{HoldsFiles}
use Rattle.jv_model.specs.promise.tree.TreeAct.{attempt}
use Rattle.jv_client_metadata.proofs.AttemptLaws.{answers-mapped, transacts-mapped, transacts-always, says-unlinked, says-renamed}
use Rattle.jv_client_metadata.proofs.transactions.transact.Goals as goal

pub returns-in-Umount-clause-does : goal.returns-in-Umount-clause-does
returns-in-Umount-clause-does g c caller is asks =
    transacts-always caller.held (g.K.Keeper.seen c.args.k.now) (g.K.Keeper.seen c.close_session.new.k) (λ unit. Done) _ _ (λ x. refl) c.close_session.result (c.close_session.ensures caller is)
    c.done.result c.done.ensures (λ t. attempt t caller c.args.op.now) (λ t. ap (attempt t caller) c.in-Umount.is)

pub returns-in-Umount-clause-answers : goal.returns-in-Umount-clause-answers
returns-in-Umount-clause-answers g c = answers-mapped _ (λ x. refl) c.close_session.result c.done.result c.done.ensures

pub returns-in-Beat-clause-does : goal.returns-in-Beat-clause-does
returns-in-Beat-clause-does g c caller is asks =
    transacts-always caller.held (g.K.Keeper.seen c.args.k.now) (g.K.Keeper.seen c.beat.new.k) (λ unit. Done) _ _ (λ x. refl) c.beat.result (c.beat.ensures caller is)
    c.done-in-Beat.result c.done-in-Beat.ensures (λ t. attempt t caller c.args.op.now) (λ t. ap (attempt t caller) c.in-Beat.is)

pub returns-in-Beat-clause-answers : goal.returns-in-Beat-clause-answers
returns-in-Beat-clause-answers g c = answers-mapped _ (λ x. refl) c.beat.result c.done-in-Beat.result c.done-in-Beat.ensures

pub returns-in-Close-clause-does : goal.returns-in-Close-clause-does
returns-in-Close-clause-does g c caller is asks =
    transacts-always caller.held (g.K.Keeper.seen c.args.k.now) (g.K.Keeper.seen c.release.new.k) (λ unit. Done) _ _ (λ x. refl) c.release.result (c.release.ensures caller is asks.names)
    c.done-in-Close.result c.done-in-Close.ensures (λ t. attempt t caller c.args.op.now) (λ t. ap (attempt t caller) c.in-Close.is)

pub returns-in-Close-clause-answers : goal.returns-in-Close-clause-answers
returns-in-Close-clause-answers g c = answers-mapped _ (λ x. refl) c.release.result c.done-in-Close.result c.done-in-Close.ensures

pub returns-in-Lookup-clause-does : goal.returns-in-Lookup-clause-does
returns-in-Lookup-clause-does g c caller is asks =
    transacts-always caller.held (g.K.Keeper.seen c.args.k.now) (g.K.Keeper.seen c.lookup.new.k) (λ inode. Found inode) _ _ (λ x. refl) c.lookup.result (c.lookup.ensures caller is)
    c.found.result c.found.ensures (λ t. attempt t caller c.args.op.now) (λ t. ap (attempt t caller) c.in-Lookup.is)

pub returns-in-Lookup-clause-answers : goal.returns-in-Lookup-clause-answers
returns-in-Lookup-clause-answers g c = answers-mapped _ (λ x. refl) c.lookup.result c.found.result c.found.ensures

pub returns-in-Stat-clause-does : goal.returns-in-Stat-clause-does
returns-in-Stat-clause-does g c caller is asks =
    transacts-always caller.held (g.K.Keeper.seen c.args.k.now) (g.K.Keeper.seen c.stat.new.k) (λ attr. Described attr) _ _ (λ x. refl) c.stat.result (c.stat.ensures.followed refl caller is)
    c.described.result c.described.ensures (λ t. attempt t caller c.args.op.now) (λ t. ap (attempt t caller) c.in-Stat.is)

pub returns-in-Stat-clause-answers : goal.returns-in-Stat-clause-answers
returns-in-Stat-clause-answers g c = answers-mapped _ (λ x. refl) c.stat.result c.described.result c.described.ensures

pub returns-in-Lstat-clause-does : goal.returns-in-Lstat-clause-does
returns-in-Lstat-clause-does g c caller is asks =
    transacts-always caller.held (g.K.Keeper.seen c.args.k.now) (g.K.Keeper.seen c.stat-in-Lstat.new.k) (λ attr. Described attr) _ _ (λ x. refl) c.stat-in-Lstat.result (c.stat-in-Lstat.ensures.unfollowed refl caller is)
    c.described-in-Lstat.result c.described-in-Lstat.ensures (λ t. attempt t caller c.args.op.now) (λ t. ap (attempt t caller) c.in-Lstat.is)

pub returns-in-Lstat-clause-answers : goal.returns-in-Lstat-clause-answers
returns-in-Lstat-clause-answers g c = answers-mapped _ (λ x. refl) c.stat-in-Lstat.result c.described-in-Lstat.result c.described-in-Lstat.ensures

pub returns-in-Fstat-clause-does : goal.returns-in-Fstat-clause-does
returns-in-Fstat-clause-does g c caller is asks =
    transacts-always caller.held (g.K.Keeper.seen c.args.k.now) (g.K.Keeper.seen c.fstat.new.k) (λ attr. Described attr) _ _ (λ x. refl) c.fstat.result (c.fstat.ensures caller is asks.names)
    c.described-in-Fstat.result c.described-in-Fstat.ensures (λ t. attempt t caller c.args.op.now) (λ t. ap (attempt t caller) c.in-Fstat.is)

pub returns-in-Fstat-clause-answers : goal.returns-in-Fstat-clause-answers
returns-in-Fstat-clause-answers g c = answers-mapped _ (λ x. refl) c.fstat.result c.described-in-Fstat.result c.described-in-Fstat.ensures

pub returns-in-Mkdir-clause-does : goal.returns-in-Mkdir-clause-does
returns-in-Mkdir-clause-does g c caller is asks =
    transacts-always caller.held (g.K.Keeper.seen c.args.k.now) (g.K.Keeper.seen c.mkdir.new.k) (λ inode. Found inode) _ _ (λ x. refl) c.mkdir.result (c.mkdir.ensures caller is)
    c.found-in-Mkdir.result c.found-in-Mkdir.ensures (λ t. attempt t caller c.args.op.now) (λ t. ap (attempt t caller) c.in-Mkdir.is)

pub returns-in-Mkdir-clause-answers : goal.returns-in-Mkdir-clause-answers
returns-in-Mkdir-clause-answers g c = answers-mapped _ (λ x. refl) c.mkdir.result c.found-in-Mkdir.result c.found-in-Mkdir.ensures

pub returns-in-Create-clause-does : goal.returns-in-Create-clause-does
returns-in-Create-clause-does g c caller is asks =
    transacts-always caller.held (g.K.Keeper.seen c.args.k.now) (g.K.Keeper.seen c.create.new.k) (λ inode. FileOpened caller.free_handle inode) _ _ (λ x. ap (λ h. FileOpened h x) (sym asks.gets)) c.create.result (c.create.ensures caller is)
    c.opened.result c.opened.ensures (λ t. attempt t caller c.args.op.now) (λ t. ap (attempt t caller) c.in-Create.is)

pub returns-in-Create-clause-answers : goal.returns-in-Create-clause-answers
returns-in-Create-clause-answers g c = answers-mapped _ (λ x. refl) c.create.result c.opened.result c.opened.ensures

pub returns-in-Open-clause-does : goal.returns-in-Open-clause-does
returns-in-Open-clause-does g c caller is asks =
    transacts-always caller.held (g.K.Keeper.seen c.args.k.now) (g.K.Keeper.seen c.open_node.new.k) (λ inode. FileOpened caller.free_handle inode) _ _ (λ x. ap (λ h. FileOpened h x) (sym asks.gets)) c.open_node.result (c.open_node.ensures caller is)
    c.opened-in-Open.result c.opened-in-Open.ensures (λ t. attempt t caller c.args.op.now) (λ t. ap (attempt t caller) c.in-Open.is)

pub returns-in-Open-clause-answers : goal.returns-in-Open-clause-answers
returns-in-Open-clause-answers g c = answers-mapped _ (λ x. refl) c.open_node.result c.opened-in-Open.result c.opened-in-Open.ensures

pub returns-in-Readdir-clause-does : goal.returns-in-Readdir-clause-does
returns-in-Readdir-clause-does g c caller is asks =
    transacts-always caller.held (g.K.Keeper.seen c.args.k.now) (g.K.Keeper.seen c.readdir.new.k) (λ entries. Entries entries) _ _ (λ x. refl) c.readdir.result (c.readdir.ensures caller is)
    c.entries.result c.entries.ensures (λ t. attempt t caller c.args.op.now) (λ t. ap (attempt t caller) c.in-Readdir.is)

pub returns-in-Readdir-clause-answers : goal.returns-in-Readdir-clause-answers
returns-in-Readdir-clause-answers g c = answers-mapped _ (λ x. refl) c.readdir.result c.entries.result c.entries.ensures

pub returns-in-Chmod-clause-does : goal.returns-in-Chmod-clause-does
returns-in-Chmod-clause-does g c caller is asks =
    transacts-always caller.held (g.K.Keeper.seen c.args.k.now) (g.K.Keeper.seen c.chmod.new.k) (λ unit. Done) _ _ (λ x. refl) c.chmod.result (c.chmod.ensures caller is)
    c.done-in-Chmod.result c.done-in-Chmod.ensures (λ t. attempt t caller c.args.op.now) (λ t. ap (attempt t caller) c.in-Chmod.is)

pub returns-in-Chmod-clause-answers : goal.returns-in-Chmod-clause-answers
returns-in-Chmod-clause-answers g c = answers-mapped _ (λ x. refl) c.chmod.result c.done-in-Chmod.result c.done-in-Chmod.ensures

pub returns-in-Chown-clause-does : goal.returns-in-Chown-clause-does
returns-in-Chown-clause-does g c caller is asks =
    transacts-always caller.held (g.K.Keeper.seen c.args.k.now) (g.K.Keeper.seen c.chown.new.k) (λ unit. Done) _ _ (λ x. refl) c.chown.result (c.chown.ensures caller is)
    c.done-in-Chown.result c.done-in-Chown.ensures (λ t. attempt t caller c.args.op.now) (λ t. ap (attempt t caller) c.in-Chown.is)

pub returns-in-Chown-clause-answers : goal.returns-in-Chown-clause-answers
returns-in-Chown-clause-answers g c = answers-mapped _ (λ x. refl) c.chown.result c.done-in-Chown.result c.done-in-Chown.ensures

pub returns-in-Utimes-clause-does : goal.returns-in-Utimes-clause-does
returns-in-Utimes-clause-does g c caller is asks =
    transacts-always caller.held (g.K.Keeper.seen c.args.k.now) (g.K.Keeper.seen c.utimes.new.k) (λ unit. Done) _ _ (λ x. refl) c.utimes.result (c.utimes.ensures caller is)
    c.done-in-Utimes.result c.done-in-Utimes.ensures (λ t. attempt t caller c.args.op.now) (λ t. ap (attempt t caller) c.in-Utimes.is)

pub returns-in-Utimes-clause-answers : goal.returns-in-Utimes-clause-answers
returns-in-Utimes-clause-answers g c = answers-mapped _ (λ x. refl) c.utimes.result c.done-in-Utimes.result c.done-in-Utimes.ensures

pub returns-in-Statfs-clause-does : goal.returns-in-Statfs-clause-does
returns-in-Statfs-clause-does g c caller is asks =
    transacts-always caller.held (g.K.Keeper.seen c.args.k.now) (g.K.Keeper.seen c.statfs.new.k) (λ space. Usage space) _ _ (λ x. refl) c.statfs.result (c.statfs.ensures caller is)
    c.usage.result c.usage.ensures (λ t. attempt t caller c.args.op.now) (λ t. ap (attempt t caller) c.in-Statfs.is)

pub returns-in-Statfs-clause-answers : goal.returns-in-Statfs-clause-answers
returns-in-Statfs-clause-answers g c = answers-mapped _ (λ x. refl) c.statfs.result c.usage.result c.usage.ensures

pub returns-in-Symlink-clause-does : goal.returns-in-Symlink-clause-does
returns-in-Symlink-clause-does g c caller is asks =
    transacts-always caller.held (g.K.Keeper.seen c.args.k.now) (g.K.Keeper.seen c.symlink.new.k) (λ inode. Found inode) _ _ (λ x. refl) c.symlink.result (c.symlink.ensures caller is)
    c.found-in-Symlink.result c.found-in-Symlink.ensures (λ t. attempt t caller c.args.op.now) (λ t. ap (attempt t caller) c.in-Symlink.is)

pub returns-in-Symlink-clause-answers : goal.returns-in-Symlink-clause-answers
returns-in-Symlink-clause-answers g c = answers-mapped _ (λ x. refl) c.symlink.result c.found-in-Symlink.result c.found-in-Symlink.ensures

pub returns-in-Readlink-clause-does : goal.returns-in-Readlink-clause-does
returns-in-Readlink-clause-does g c caller is asks =
    transacts-always caller.held (g.K.Keeper.seen c.args.k.now) (g.K.Keeper.seen c.readlink.new.k) (λ target. Target target) _ _ (λ x. refl) c.readlink.result (c.readlink.ensures caller is)
    c.target.result c.target.ensures (λ t. attempt t caller c.args.op.now) (λ t. ap (attempt t caller) c.in-Readlink.is)

pub returns-in-Readlink-clause-answers : goal.returns-in-Readlink-clause-answers
returns-in-Readlink-clause-answers g c = answers-mapped _ (λ x. refl) c.readlink.result c.target.result c.target.ensures

pub returns-in-Rmdir-clause-does : goal.returns-in-Rmdir-clause-does
returns-in-Rmdir-clause-does g c caller is asks =
    transacts-always caller.held (g.K.Keeper.seen c.args.k.now) (g.K.Keeper.seen c.rmdir.new.k) (λ unit. Done) _ _ (λ x. refl) c.rmdir.result (c.rmdir.ensures caller is)
    c.done-in-Rmdir.result c.done-in-Rmdir.ensures (λ t. attempt t caller c.args.op.now) (λ t. ap (attempt t caller) c.in-Rmdir.is)

pub returns-in-Rmdir-clause-answers : goal.returns-in-Rmdir-clause-answers
returns-in-Rmdir-clause-answers g c = answers-mapped _ (λ x. refl) c.rmdir.result c.done-in-Rmdir.result c.done-in-Rmdir.ensures

pub returns-in-Link-clause-does : goal.returns-in-Link-clause-does
returns-in-Link-clause-does g c caller is asks =
    transacts-always caller.held (g.K.Keeper.seen c.args.k.now) (g.K.Keeper.seen c.link.new.k) (λ unit. Done) _ _ (λ x. refl) c.link.result (c.link.ensures caller is)
    c.done-in-Link.result c.done-in-Link.ensures (λ t. attempt t caller c.args.op.now) (λ t. ap (attempt t caller) c.in-Link.is)

pub returns-in-Link-clause-answers : goal.returns-in-Link-clause-answers
returns-in-Link-clause-answers g c = answers-mapped _ (λ x. refl) c.link.result c.done-in-Link.result c.done-in-Link.ensures

pub returns-in-Unlink-clause-does : goal.returns-in-Unlink-clause-does
returns-in-Unlink-clause-does g c caller is asks =
    transacts-mapped (HoldsFiles caller.held) (HoldsFiles caller.held) (g.K.Keeper.seen c.args.k.now) (g.K.Keeper.seen c.unlink.new.k) (λ removed. Done) _ _ (λ t h. h) (λ x. refl)
    c.unlink.result (c.unlink.ensures.does caller is) c.unlinked.result c.unlinked.ensures (λ t. attempt t caller c.args.op.now) (λ t. ap (attempt t caller) c.in-Unlink.is)

pub returns-in-Unlink-clause-answers : goal.returns-in-Unlink-clause-answers
returns-in-Unlink-clause-answers g c = answers-mapped _ (λ x. refl) c.unlink.result c.unlinked.result c.unlinked.ensures

pub returns-in-Unlink-clause-says : goal.returns-in-Unlink-clause-says
returns-in-Unlink-clause-says g c caller is =
    says-unlinked caller (g.K.Keeper.seen c.args.k.now) _ c.args.op.now c.in-Unlink.is c.unlink.result (c.unlink.ensures.says caller is) c.unlinked.result c.unlinked.ensures

pub returns-in-Rename-clause-does : goal.returns-in-Rename-clause-does
returns-in-Rename-clause-does g c caller is asks =
    transacts-mapped (HoldsFiles caller.held) (HoldsFiles caller.held) (g.K.Keeper.seen c.args.k.now) (g.K.Keeper.seen c.rename.new.k) (λ removed. Done) _ _ (λ t h. h) (λ x. refl)
    c.rename.result (c.rename.ensures.does caller is) c.renamed.result c.renamed.ensures (λ t. attempt t caller c.args.op.now) (λ t. ap (attempt t caller) c.in-Rename.is)

pub returns-in-Rename-clause-answers : goal.returns-in-Rename-clause-answers
returns-in-Rename-clause-answers g c = answers-mapped _ (λ x. refl) c.rename.result c.renamed.result c.renamed.ensures

pub returns-in-Rename-clause-says : goal.returns-in-Rename-clause-says
returns-in-Rename-clause-says g c caller is =
    says-renamed caller (g.K.Keeper.seen c.args.k.now) _ _ _ c.args.op.now c.in-Rename.is c.rename.result (c.rename.ensures.says caller is) c.renamed.result c.renamed.ensures
