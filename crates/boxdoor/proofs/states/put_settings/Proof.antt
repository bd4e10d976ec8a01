-- `boxdoor::states::put_settings` meets its contract: the channels, the common numbers and the serial, one behind the other.
use Rattle.boxdoor.proofs.Fields.{settings_stored}
use borrow.Author.Rules.{rules}
use Rattle.boxdoor.proofs.states.put_settings.Statement.{statement}
use Rattle.boxdoor.proofs.states.put_settings.Tie as tie

put-channel-requires : tie.Need-put_channel-requires
put-channel-requires c κs = search rules

put-channel-requires-2 : tie.Need-put_channel-requires-2
put-channel-requires-2 c κs = search rules

put-common-requires : tie.Need-put_common-requires
put-common-requires c κs = search rules

slice-aggregate-copy : tie.Need-slice_bounds-copy-end
slice-aggregate-copy c = search rules

copy-requires : tie.Need-copy-requires
copy-requires c κs = search rules

same_length : tie.Need-shape_of-b
same_length c = search rules

returns : tie.Need-returns
returns c =
    let serial = c in
    let common = serial in
    let second = common in
    let first = second in
    let a = first.args in
    settings_stored a.s a.b.now _ _ _ _ first.put_channel.ensures second.put_channel-2.ensures
    common.put_common.ensures serial.copy.ensures

pub put_settings_spec : {M : Type 1} → statement M
put_settings_spec =
    tie.close
    (tie.spec
    put-channel-requires
    put-channel-requires-2
    put-common-requires
    slice-aggregate-copy
    copy-requires
    same_length
    returns)
