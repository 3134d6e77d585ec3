pub mod PlacesLemmas
pub mod RunLemmas
pub mod ShownLemmas
pub mod HolesLemmas
pub mod RegionsLemmas
pub mod ChunkLemmas
pub mod ChunksLemmas
pub mod TableLemmas
