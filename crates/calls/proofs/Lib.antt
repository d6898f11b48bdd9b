pub mod OnePlace
