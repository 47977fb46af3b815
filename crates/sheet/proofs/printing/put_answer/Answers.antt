-- The address line, then three lines, one after the other.
use Rattle.std.proofs.Common.{◌≡◌, ◌+◌, ◌≤◌, arith, length}
use Rattle.reading.specs.Keys.{hop_key}
use Rattle.sheet.specs.Keys.{length_key}
use Rattle.sheet.specs.Limits.{address_bytes, decimal_bytes}
use Rattle.sheet.specs.Printing.{answer_lines}
use Rattle.sheet.proofs.Writing.{longer_by_line, longer_by_address, lines_put}
use Rattle.sheet.proofs.printing.put_answer.Goals as goal

pub put_line-requires : goal.put_line-requires
put_line-requires c =
    let address : length c.put_address.new.page.items ≡ length c.args.page.now.items + (c.args.n + address_bytes) = longer_by_address _ _ _ c.put_address.ensures in
    omega arith

pub put_line-requires-2 : goal.put_line-requires-2
put_line-requires-2 c =
    let address : length c.put_address.new.page.items ≡ length c.args.page.now.items + (c.args.n + address_bytes) = longer_by_address _ _ _ c.put_address.ensures in
    let hop : length c.put_line.new.page.items ≤ length c.put_address.new.page.items + (length hop_key + decimal_bytes) = longer_by_line _ hop_key _ c.put_line.ensures in
    omega arith

pub put_line-requires-3 : goal.put_line-requires-3
put_line-requires-3 c =
    let address : length c.put_address.new.page.items ≡ length c.args.page.now.items + (c.args.n + address_bytes) = longer_by_address _ _ _ c.put_address.ensures in
    let hop : length c.put_line.new.page.items ≤ length c.put_address.new.page.items + (length hop_key + decimal_bytes) = longer_by_line _ hop_key _ c.put_line.ensures in
    let len : length c.put_line-2.new.page.items ≤ length c.put_line.new.page.items + (length length_key + decimal_bytes) = longer_by_line _ length_key _ c.put_line-2.ensures in
    omega arith

pub returns : goal.returns
unfolding answer_lines
returns c =
    lines_put c.args.page.now.items c.args.address c.args.n c.put_address.ensures c.put_line.ensures c.put_line-2.ensures c.put_line-3.ensures
    (omega arith) (omega arith) (omega arith)
