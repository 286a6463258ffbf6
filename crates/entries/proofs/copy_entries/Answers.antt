-- `entries::copy_entries` meets its contract: the entries before the place and from there on are apart.
use Rattle.entries.proofs.Block.{block_copied}
use Rattle.entries.proofs.copy_entries.Goals as goal

pub returns : goal.returns
returns c =
    let s = c.split_at_mut-before.ensures in
    block_copied c.args.table.now c.args.at c.args.back c.requires.0 c.requires.1 c.requires.2 s.front s.back c.copy_from_slice.ensures.after
