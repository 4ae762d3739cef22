mod Examples
pub mod LaidOutExample
mod Needed
pub mod WordsStand
pub mod BitLemmas
pub mod PlaceLemmas
pub mod HolesAscend
pub mod ResultsBelow
pub mod KindsStand
pub mod FlagRows
pub mod MaskRows
pub mod LowArguments
pub mod KnownWords
pub mod RegionBytes
pub mod PiecesCut
pub mod PiecesPushed
pub mod PiecesAscend
pub mod PiecesFound
pub mod PiecesGrown
pub mod Compared
pub mod AluStands
pub mod SymbolsStand
pub mod ExtendStands
pub mod SumOfWords
pub mod PlacesOfWords
pub mod AllStand
pub mod RegionsLaidOut
