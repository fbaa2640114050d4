pub mod SessionPlaces
