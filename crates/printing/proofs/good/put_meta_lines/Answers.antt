use Rattle.printing.proofs.Ready.{metas_asked, metas_wrote}
use Rattle.printing.proofs.good.put_meta_lines.Goals as goal

pub put_metas-requires : goal.put_metas-requires
put_metas-requires c = metas_asked c.requires c.metas_of-metas.ensures c.members_of-members.ensures c.strings_of-strings.ensures c.attr_trits_of-trits.ensures

pub returns : goal.returns
returns c = metas_wrote c.requires c.metas_of-metas.ensures c.members_of-members.ensures c.strings_of-strings.ensures c.attr_trits_of-trits.ensures c.put_metas.ensures
