pub mod Pieces
pub mod OneFunction
pub mod FilePlaces
pub mod TextLines
pub mod FileSymbols
pub mod FilePrinted
pub mod FileTargets
pub mod FileLabels
pub mod TextHosted
pub mod TextLaid
pub mod TextStart
pub mod TextCounters
pub mod TextRows
pub mod TextContents
pub mod FileFits
pub mod TextNear
pub mod FileProbes
pub mod OneList
pub mod FileStart
pub mod FileAnswers
pub mod FileLaw
mod Appearance
mod Rests
mod PointsPast
mod ProbeLines
mod PointNames
mod NoNames
mod Referring
mod Imports
mod Few
mod Whole
mod WholeData
mod Among
mod Chosen
mod Kept
mod NearLeader
mod ProbeNames
mod Registers
pub mod Formed
