use borrow.Author.Rules.{rules}
use mathlib.Core.Path.{◌≡◌}
use lib.ListN.{length}
use Rattle.openbmp_writer.proofs.Written.{put_rest}
use Rattle.openbmp_writer.proofs.put_rest.Goals as goal

pub returns : goal.returns
returns c =
    let sixteen : length c.args.octets ≡ 16 = search rules in
    let a = c.args in
    put_rest a.octets a.admin.now a.group.now a.out.now _ _ _ _ _ sixteen c.requires.group_in_bounds
    c.put_counted.ensures c.put_bytes.ensures c.put_bytes-2.ensures c.put_counted-2.ensures c.put.ensures
