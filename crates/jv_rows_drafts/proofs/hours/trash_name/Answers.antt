use Rattle.jv_rows_drafts.proofs.TrashTextLaws.{trash_text}
use Rattle.jv_rows_drafts.proofs.hours.trash_name.Goals as goal

pub returns : goal.returns
returns c =
    rw (
      c.from_vec.ensures,
      c.truncate.ensures.items,
      c.in_ok-extend_from_slice-3.ensures.items,
      c.in_ok-push-2.ensures.items,
      c.in_ok-extend_from_slice-2.ensures.items,
      c.in_ok-push.ensures.items,
      c.in_ok-extend_from_slice.ensures.items,
      c.new-text.ensures.items,
      c.as_bytes.ensures.value,
      c.as_bytes-2.ensures.value,
      c.format.ensures.text,
      c.format-2.ensures.text,
      c.as_slice.ensures,
    )
    (trash_text c.args.dir c.args.inode c.args.name.now)
