use Rattle.std.proofs.Common.{◌++◌, Some}
use Rattle.std.specs.Io.KnownBytes.{Appends}
use Rattle.nbd_stream.proofs.KnownLemmas.{Appends-then}
use Rattle.nbd_scripts.specs.Waiting.{number_text, reservation_word, rest_text}
use Rattle.nbd_scripts.proofs.tags.write_tag.Goals as goal

pub returns : goal.returns
returns g c =
    let tags = c.args.tags in
    let old = Some c.args.text.now.items in
    let one = Some c.write_number.new.text.items in
    let two = Some c.write_reservation.new.text.items in
    let new = Some c.write_rest.new.text.items in
    let number : Appends old one (number_text c.args.number) = c.in_ok-write_number.ensures in
    let reservation : Appends one two (reservation_word tags.r) = c.in_ok-write_reservation.ensures in
    let rest : Appends two new (rest_text tags) = c.in_ok-write_rest.ensures in
    Appends-then old one new (number_text c.args.number) (reservation_word tags.r ++ rest_text tags) number (Appends-then one two new (reservation_word tags.r) (rest_text tags) reservation rest)
