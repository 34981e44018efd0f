use Rattle.printing.proofs.Ready.{ios_asked, ios_wrote}
use Rattle.printing.proofs.good.put_io_lines.Goals as goal

pub put_ios-requires : goal.put_ios-requires
put_ios-requires c = let s = c in (ios_asked s.args.rows.now s.args.strings.now c.ios_of-ios.ensures c.strings_of-strings.ensures s.requires.0, s.requires.2)

pub returns : goal.returns
returns c = let a = c.args in ios_wrote a.rows.now a.strings.now c.ios_of-ios.ensures c.strings_of-strings.ensures c.put_ios.ensures
