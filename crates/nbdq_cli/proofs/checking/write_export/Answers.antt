use Rattle.std.proofs.Common.{◌++◌, Some, codes}
use Rattle.std.specs.Io.KnownBytes.{Appends}
use Rattle.nbd_stream.proofs.KnownLemmas.{Appends-then}
use Rattle.nbdq_cli.specs.Checked.{disk_text, rates_text, queue_text}
use Rattle.nbdq_cli.proofs.checking.write_export.Goals as goal

pub returns : goal.returns
returns g c =
    let export = c.args.export.now in
    let old = Some c.args.text.now.items in
    let one = Some c.write_disk.new.text.items in
    let two = Some c.write_rates.new.text.items in
    let three = Some c.write_queue.new.text.items in
    let four = Some c.extend_from_slice.new.self.items in
    let new = Some c.extend_from_slice-2.new.self.items in
    let disk : Appends old one (disk_text c.args.at export) = c.in_ok-write_disk.ensures in
    let rates : Appends one two (rates_text export) = c.in_ok-write_rates.ensures in
    let queue : Appends two three (queue_text export) = c.in_ok-write_queue.ensures in
    let name : Appends three four export.name = rw (← c.name.ensures.value) c.in_ok-extend_from_slice.ensures.items in
    let end : Appends four new (codes "\n") = c.in_ok-extend_from_slice-2.ensures.items in
    Appends-then old one new (disk_text c.args.at export) (rates_text export ++ (queue_text export ++ (export.name ++ codes "\n"))) disk
    (Appends-then one two new (rates_text export) (queue_text export ++ (export.name ++ codes "\n")) rates
    (Appends-then two three new (queue_text export) (export.name ++ codes "\n") queue
    (Appends-then three four new export.name (codes "\n") name end)))
