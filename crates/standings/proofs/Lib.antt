mod RowLemmas
mod CountLemmas
pub mod SpanLemmas
pub mod FrontLemmas
mod PlaceLemmas
mod RoomLemmas
pub mod KeptLemmas
mod MovedLemmas
mod LagLemmas
mod NearLemmas
mod StayLemmas
mod SpaceLemmas
mod RegionLemmas
mod WithinLemmas
mod PairLemmas
mod LeftLemmas
mod SurplusLemmas
mod LessLemmas
mod SpeltLemmas
mod CutLemmas
