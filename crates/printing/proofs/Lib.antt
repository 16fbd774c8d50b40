-- Lines as they are written, and the turns of an occupancy page.
pub mod LineLaws
pub mod PageReads
