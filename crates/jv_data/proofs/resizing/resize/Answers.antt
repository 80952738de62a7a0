use Rattle.std.proofs.Common.{sym, ◌∙◌}
use Rattle.jv_data.proofs.files.ResizingLaws.{resize-same}
use Rattle.jv_data.proofs.resizing.resize.Goals as goal

pub returns : goal.returns
returns g c =
    resize-same c.args.inode c.args.was c.args.length c.args.now (g.K.Keeper.seen c.args.k.now) c.requires.there c.requires.file
    c.args.draft.now c.requires.new (sym c.paged.ensures ∙ c.if-paged.false ∙ c.paged-2.ensures)
    c.sized.result c.put_node.new.self c.sized.ensures c.in_ok-put_node.ensures.done
