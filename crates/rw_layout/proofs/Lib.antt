pub mod OwnNames
pub mod Taken
pub mod Parted
pub mod KeyFacts
pub mod Lines
pub mod Prefixes
pub mod SizeFacts
pub mod FirstPlace
pub mod Defined
pub mod Used
pub mod Refusing
mod UnitFacts
mod BaseFacts
mod PlaceFacts
mod NameFacts
mod UseFacts
pub mod Placed
pub mod UnitLines
pub mod PartsOrder
pub mod UnitSizes
pub mod Limits
pub mod SectionLines
pub mod RegionsLaid
pub mod InsnsLaid
pub mod InsnLines
pub mod KeyedLines
pub mod NamePlaces
mod LayoutFacts
pub mod RuleLaid
pub mod ExampleLaid
mod DistanceFacts
