-- Whether an inode may stand in place of another one: each exit of the tests.
use Rattle.std.proofs.Common.{◌≡◌, ℕ, Bool, true, false, not, ◌&&◌, ◌==◌, Result, Ok, Err, ◌∙◌}
use Rattle.jv_model.specs.declared.fault.Fault.{Fault}
use Rattle.jv_model.specs.declared.fault.Fault.TheVariants.{Invalid, NotADirectory, IsADirectory, DirectoryNotEmpty}
use Rattle.jv_model.specs.declared.fault.TxFault.{TxFault}
use Rattle.jv_model.specs.declared.fault.TxFault.TheVariants.{Refused}
use Rattle.jv_model.specs.promise.tree.Attempt.{◌>>=◌, require}
use Rattle.jv_model.specs.promise.tree.Renaming.{is_inside}
use Rattle.jv_model.specs.promise.tree.Tree.{Tree, is_directory, has_entries}
use Rattle.jv_outside.specs.promise.Store.{Store}
use Rattle.jv_rows.specs.declared.walking.Place.{Place}
use Rattle.jv_rows.specs.Transactions.{Looks}
use Rattle.jv_rows.proofs.transactions.TransactionLaws.{Past, past-start, past-as, past-looks, past-stops, past-gives, past-refuses}
use Rattle.jv_volume.specs.promise.TypedRows.{typed}
use Rattle.jv_volume.specs.promise.TreeOf.{tree_of}
use Rattle.jv_links.specs.declared.ends.Ends.{Ends}
use Rattle.jv_links.specs.Moves.{EndsStand, Stands}
use Rattle.jv_links.specs.Replacements.{may_replace}
use Rattle.jv_links.proofs.moves.RenameAnswerLaws.{has_node}

-- what is asked of the kinds of both, by whether each is a directory and whether the other one has entries
abbrev kinds_of : Bool → Bool → Bool → Result (Unit {0}) Fault
kinds_of moves over full = require (not (moves && not over)) NotADirectory >>=
    (λ _. require (not (not moves && over)) IsADirectory >>= (λ _. require (not (over && full)) DirectoryNotEmpty))

module _ (ends : Ends) (other : Place) (before : Store) (stand : EndsStand before ends) (there : Stands before other)
  where
    abbrev dir : ℕ
    dir = ends.to.dir.inode

    abbrev source : ℕ
    source = ends.source.inode

    abbrev act : Tree → Result (Unit {0}) Fault
    act t = may_replace t dir source other.inode

    abbrev climbs : Tree → Result Bool Fault
    climbs t = Ok (is_inside t dir source)

    abbrev kinds : Tree → Result (Unit {0}) Fault
    kinds t = kinds_of (is_directory t source) (is_directory t other.inode) (has_entries t other.inode)

    abbrev climbed : Tree → Bool → Result (Unit {0}) Fault
    climbed t inside = require (not inside) Invalid >>= (λ _. kinds t)

    started : Past before before act (λ t. climbs t >>= climbed t)
    started = past-start before act

    -- the way up wasn't climbed
    pub replaceable-not_climbed : (after : Store) (fault : TxFault) → Looks {A = Bool} before after (Err fault) climbs
        → Looks before after (Err fault) act
    replaceable-not_climbed after fault l = past-stops before before after act climbs climbed started fault l

    -- the directory would move into itself
    pub replaceable-inside : (after : Store) → Looks before after (Ok true) climbs
        → Looks before after (Err (Refused Invalid)) act
    replaceable-inside after l = past-refuses before after act Invalid
        (past-looks before before after act climbs climbed started true l)

    module _ (middle : Store) (l : Looks before middle (Ok false) climbs) where
      outside : Past before middle act kinds
      outside = past-looks before before middle act climbs climbed started false l

      by_kinds : (moves over : Bool) → (ends.source.node.kind == 2) ≡ moves → (other.node.kind == 2) ≡ over
          → Past before middle act (λ t. kinds_of moves over (has_entries t other.inode))
      by_kinds moves over e f = past-as before middle middle act kinds outside
          (λ t. kinds_of moves over (has_entries t other.inode)) (λ known is whole bytes.
          let t = tree_of bytes (typed known) in
          let first : is_directory t source ≡ moves =
          (has_node before source ends.source known stand.source.row is whole bytes).directory ∙ e in
          let second : is_directory t other.inode ≡ over =
          (has_node before other.inode other known there.row is whole bytes).directory ∙ f in
          λ i. kinds_of (first i) (second i) (has_entries t other.inode))

      -- a directory over a file or a symlink
      pub replaceable-no_directory : (ends.source.node.kind == 2) ≡ true → (other.node.kind == 2) ≡ false
          → Looks before middle (Err (Refused NotADirectory)) act
      replaceable-no_directory e f = past-refuses before middle act NotADirectory (by_kinds true false e f)

      -- neither is a directory
      pub replaceable-leaf : (ends.source.node.kind == 2) ≡ false → (other.node.kind == 2) ≡ false
          → Looks before middle (Ok tt) act
      replaceable-leaf e f = past-gives before middle act tt (by_kinds false false e f)

      -- a file or a symlink over a directory
      pub replaceable-directory : (ends.source.node.kind == 2) ≡ false → (other.node.kind == 2) ≡ true
          → Looks before middle (Err (Refused IsADirectory)) act
      replaceable-directory e f = past-refuses before middle act IsADirectory (by_kinds false true e f)

      module _ (e : (ends.source.node.kind == 2) ≡ true) (f : (other.node.kind == 2) ≡ true) (after : Store) where
        abbrev finds : Tree → Result Bool Fault
        finds t = Ok (has_entries t other.inode)

        abbrev emptied : Tree → Bool → Result (Unit {0}) Fault
        emptied t full = require (not full) DirectoryNotEmpty

        both : Past before middle act (λ t. finds t >>= emptied t)
        both = by_kinds true true e f

        -- whether it has entries wasn't read
        pub replaceable-unread : (fault : TxFault) → Looks {A = Bool} middle after (Err fault) finds
            → Looks before after (Err fault) act
        replaceable-unread fault r = past-stops before middle after act finds emptied both fault r

        -- it has some
        pub replaceable-not_empty : Looks middle after (Ok true) finds
            → Looks before after (Err (Refused DirectoryNotEmpty)) act
        replaceable-not_empty r = past-refuses before after act DirectoryNotEmpty
            (past-looks before middle after act finds emptied both true r)

        -- it is empty
        pub replaceable-empty : Looks middle after (Ok false) finds → Looks before after (Ok tt) act
        replaceable-empty r = past-gives before after act tt
            (past-looks before middle after act finds emptied both false r)
