pub mod ToneLobes
