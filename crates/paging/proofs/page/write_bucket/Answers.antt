-- `paging::page::write_bucket` meets its contract. The members that were listed, each turned into its number.
use Rattle.crumbmap.specs.Layouts.{layout1}
use Rattle.crumbmap.specs.Fingerprints.{fingerprint}
use Rattle.image.proofs.ListedLaws.{listed-take, listed-mapped}
use Rattle.listing.proofs.ListingLaws.{members-range, front-small}
use Rattle.paging.proofs.page.write_bucket.Goals as goal

pub number_all-requires : goal.number_all-requires
number_all-requires c =
    let p = c.requires in
    rw (listed-take c.list_members-n.ensures) (front-small p.0.within, members-range p.0, p.1)

pub returns : goal.returns
returns c =
    listed-mapped c.list_members-n.ensures (fingerprint layout1 c.args.front.0) c.number_all.ensures
