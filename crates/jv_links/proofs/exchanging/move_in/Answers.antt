use Rattle.jv_tree.specs.Entering.{place_of}
use Rattle.jv_links.proofs.moves.ExchangeStepLaws.{enter-on}
use Rattle.jv_links.proofs.exchanging.move_in.Goals as goal

pub returns : goal.returns
returns g c =
    enter-on c.args.now (place_of c.args.place.now) c.args.inode c.args.draft.now c.put_entry.new.draft
    (g.K.Keeper.seen c.args.k.now) (g.K.Keeper.seen c.put_entry.new.k) c.in_ok-put_entry.ensures
    c.move_under.new.draft (g.K.Keeper.seen c.move_under.new.k) c.move_under.result c.move_under.ensures
