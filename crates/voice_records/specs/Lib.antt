pub mod VoiceRecords
