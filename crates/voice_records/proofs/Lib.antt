pub mod RecordVoices
