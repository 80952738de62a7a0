use Rattle.std.proofs.Common.{None, Ok, refl, ap, eq-eqb, ne_eqb}
use Rattle.std.specs.Prelude.{◌==◌, if◌then◌else◌}
use Rattle.jv_links.specs.Replacements.{cleared}
use Rattle.jv_model.specs.declared.basics.How.TheVariants.{Plain, Exchange}
use Rattle.jv_model.specs.promise.tree.Renaming.{replacing, exchanging}
use Rattle.jv_links.specs.Moves.{IsOverMove}
use Rattle.jv_tree.specs.Entering.{place_of}
use Rattle.jv_links.proofs.moves.RenameLaws.{renames-same, renames-apart}
use Rattle.jv_links.proofs.renaming.rename_over.Goals as goal

pub returns-in-Plain : goal.returns-in-Plain
returns-in-Plain g c caller asks =
    let from = place_of c.args.ends.now.from in
    let to = place_of c.args.ends.now.to in
    let source = c.args.ends.now.source.inode in
    let other = c.args.other.now.inode in
    rw c.in-Plain.is
    (renames-same caller.sid (λ t. IsOverMove t caller Plain from source to other) (g.K.Keeper.seen c.args.k.now) source
    other
    (λ t _. replacing t caller from source to other) (eq-eqb source other c.if-is_same.true)
    (λ t. Ok (if source == other then None else cleared t caller to other))
    (λ t. ap (λ b. Ok (if b then None else cleared t caller to other)) (eq-eqb source other c.if-is_same.true)))

pub returns-in-Plain-2 : goal.returns-in-Plain-2
returns-in-Plain-2 g c caller asks =
    let from = place_of c.args.ends.now.from in
    let to = place_of c.args.ends.now.to in
    let source = c.args.ends.now.source.inode in
    let other = c.args.other.now.inode in
    rw c.in-Plain.is
    (renames-apart caller.sid (λ t. IsOverMove t caller Plain from source to other) (g.K.Keeper.seen c.args.k.now)
    (g.K.Keeper.seen c.replace.new.k) source other
    (λ t _. replacing t caller from source to other) (ne_eqb source other c.if-is_same.false)
    (λ t. Ok (cleared t caller to other)) (λ t. Ok (if source == other then None else cleared t caller to other))
    (λ t. ap (λ b. Ok (if b then None else cleared t caller to other)) (ne_eqb source other c.if-is_same.false))
    c.replace.result
    (c.replace.ensures caller Plain asks))

pub returns-in-Exchange : goal.returns-in-Exchange
returns-in-Exchange g c caller asks =
    let from = place_of c.args.ends.now.from in
    let to = place_of c.args.ends.now.to in
    let source = c.args.ends.now.source.inode in
    let other = c.args.other.now.inode in
    rw c.in-Exchange.is
    (renames-same caller.sid (λ t. IsOverMove t caller Exchange from source to other) (g.K.Keeper.seen c.args.k.now)
    source other
    (λ t _. exchanging t caller from source to other) (eq-eqb source other c.if-is_same-2.true) (λ t. Ok None) (λ t. refl))

pub returns-in-Exchange-2 : goal.returns-in-Exchange-2
returns-in-Exchange-2 g c caller asks =
    let from = place_of c.args.ends.now.from in
    let to = place_of c.args.ends.now.to in
    let source = c.args.ends.now.source.inode in
    let other = c.args.other.now.inode in
    rw c.in-Exchange.is
    (renames-apart caller.sid (λ t. IsOverMove t caller Exchange from source to other) (g.K.Keeper.seen c.args.k.now)
    (g.K.Keeper.seen c.exchange.new.k) source other
    (λ t _. exchanging t caller from source to other) (ne_eqb source other c.if-is_same-2.false)
    (λ t. Ok None) (λ t. Ok None) (λ t. refl) c.exchange.result
    (c.exchange.ensures caller asks))
