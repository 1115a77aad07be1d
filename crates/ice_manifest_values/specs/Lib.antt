pub mod Met
pub mod MapsRead
pub mod SoundMaps
pub mod InPlace
